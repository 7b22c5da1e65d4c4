-- Texts that are put together from pieces.
use Rattle.index_pages.proofs.Words.{◌≡◌, ◌++◌, subst, append_assoc, Bytes, ExtendsText}

-- two texts, one after the other
pub adds_both : {O : Type 0} {holds : O → Bytes → Type 0} {before between after : O} {first second : Bytes}
    → ExtendsText holds before between first → ExtendsText holds between after second → ExtendsText holds before after (first ++ second)
adds_both {O} {holds} {before} {between} {after} {first} {second} one two = record {
  behind = λ front h. subst (holds after) (append_assoc front first second) (two.behind (front ++ first) (one.behind front h));
}

-- the same text in other words
pub adds_same : {O : Type 0} {holds : O → Bytes → Type 0} {before after : O} {text same : Bytes}
    → ExtendsText holds before after text → text ≡ same → ExtendsText holds before after same
adds_same {O} {holds} {before} {after} {text} {same} adds e = subst (ExtendsText holds before after) e adds
