-- Exchanges with known inputs and replies are known but for their moments.
use Rattle.index.proofs.Words.{◌≡◌, ◌∙◌, ◌+◌, ℕ, suc, List, [], ◌∷◌, ◌++◌, length, length-append, Some, refl, sym, ap, subst, inl, inr}
use Rattle.index.proofs.Words.{arith, Bytes, AddsReply, Came, ClientTaken, Closed, Exchange, IsUnsent, KnownList, KnownReplies, SentReply}
use Rattle.index.proofs.Words.{AreAmong}
use Rattle.index_cli.specs.FilesServed.{GotFile, IsAmong}

-- two exchanges have all in common but their moments
abbrev pub Alike : Exchange → Exchange → Type 0
Alike one other = (one.given ≡ other.given) × (one.had ≡ other.had) × (one.has ≡ other.has) × (one.faults ≡ other.faults)

abbrev pub AllAlike : List Exchange → List Exchange → Type 0
AllAlike [] [] = Unit {0}
AllAlike [] (other ∷ others) = ⊥
AllAlike (one ∷ earlier) [] = ⊥
AllAlike (one ∷ earlier) (other ∷ others) = Alike one other × AllAlike earlier others

-- each of exchanges is like one of those that they are like
pub one_alike : (exchanges others : List Exchange) → AllAlike exchanges others → (one : Exchange) → IsAmong one exchanges
    → (other : Exchange) × IsAmong other others × Alike one other
one_alike [] others all one among = absurd among
one_alike (exchange ∷ earlier) [] all one among = absurd all
one_alike (exchange ∷ earlier) (other ∷ others) all one (inl is) = (other, inl refl, subst (λ it. Alike it other) (sym is) all.0)
one_alike (exchange ∷ earlier) (other ∷ others) all one (inr among) =
    let found = one_alike earlier others all.1 one among in
    (found.0, inr found.1, found.2)

pub alike_got : (one other : Exchange) → Alike one other → (file bytes : Bytes) → GotFile one file bytes → GotFile other file bytes
alike_got one other (given, had, has, faults) file bytes got = record {
  input = got.input;
  fields = got.fields;
  sent = got.sent;
  given = sym given ∙ got.given;
  message = got.message;
  had = sym had ∙ got.had;
  has = sym has ∙ got.has;
  unfailed = sym faults ∙ got.unfailed;
}

-- ---- a list with one more at its end

module _ {A : Type 0} where
  pub same_end : (xs ys : List A) (x y : A) → xs ++ x ∷ [] ≡ ys ++ y ∷ [] → (xs ≡ ys) × (x ≡ y)
  same_end [] [] x y is = (refl, cc)
  same_end [] (b ∷ ys) x y is =
      let size : 1 ≡ suc (length (ys ++ y ∷ [])) = ap length is in
      let more = length-append ys (y ∷ []) in
      absurd (omega (arith, size, more))
  same_end (a ∷ xs) [] x y is =
      let size : suc (length (xs ++ x ∷ [])) ≡ 1 = ap length is in
      let more = length-append xs (x ∷ []) in
      absurd (omega (arith, size, more))
  same_end (a ∷ xs) (b ∷ ys) x y is =
      let first : a ≡ b = cc in
      let rest : xs ++ x ∷ [] ≡ ys ++ y ∷ [] = cc in
      let both = same_end xs ys x y rest in
      (subst (λ it. a ∷ xs ≡ it ∷ ys) first (ap (λ it. a ∷ it) both.0), both.1)

-- ---- known replies and inputs

-- a reply was added for each exchange
replies_known : (had : List SentReply) (later : KnownReplies) (exchanges : List Exchange) → Closed (Some had) later exchanges
    → (has : List SentReply) × (later ≡ Some has) × (length has ≡ length had + length exchanges)
replies_known had later [] it = (had, it, omega arith)
replies_known had later (exchange ∷ earlier) it =
    let before = replies_known had it.0 earlier it.1 in
    let adds = subst (λ known. AddsReply known later exchange.has exchange.faults) before.1 it.3 in
    let reply : SentReply = record { bytes = adds.0; faults = exchange.faults } in
    let added = length-append before.0 (reply ∷ []) in
    (before.0 ++ reply ∷ [], adds.2, omega (arith, before.2, added))

inputs_known : (inputs : List (List ℕ)) (later : KnownList) (exchanges : List Exchange) → Came (Some inputs) later exchanges
    → (rest : List (List ℕ)) × (later ≡ Some rest)
inputs_known inputs later [] it = (inputs, it)
inputs_known inputs later (exchange ∷ earlier) it =
    let before = inputs_known inputs it.0 earlier it.1 in
    let took = subst (λ known. ClientTaken known later exchange.given) before.1 it.2 in
    (took.1, took.4)

-- as many replies, as many exchanges
no_other : (had : List SentReply) (has has' : KnownReplies) (one : Exchange) (earlier : List Exchange) → has ≡ has' → has ≡ Some had
    → ¬ Closed (Some had) has' (one ∷ earlier)
no_other had has has' one earlier same none closed =
    let known = replies_known had has' (one ∷ earlier) closed in
    let both : Some had ≡ Some known.0 = sym none ∙ same ∙ known.1 in
    let is : had ≡ known.0 = cc in
    let size : length had ≡ length known.0 = ap length is in
    let more : length known.0 ≡ length had + suc (length earlier) = known.2 in
    absurd (omega (arith, size, more))

-- the same reply was added to the same ones
same_added : (r r' has has' : KnownReplies) (replies replies' : List SentReply) (one other : Exchange) → r ≡ Some replies
    → r' ≡ Some replies' → has ≡ has' → AddsReply r has one.has one.faults → AddsReply r' has' other.has other.faults
    → (r ≡ r') × (one.has ≡ other.has) × (one.faults ≡ other.faults)
same_added r r' has has' replies replies' one other is is' same adds adds' =
    let it = subst (λ known. AddsReply known has one.has one.faults) is adds in
    let it' = subst (λ known. AddsReply known has' other.has other.faults) is' adds' in
    let reply : SentReply = record { bytes = it.0; faults = one.faults } in
    let reply' : SentReply = record { bytes = it'.0; faults = other.faults } in
    let whole : Some (replies ++ reply ∷ []) ≡ Some (replies' ++ reply' ∷ []) = sym it.2 ∙ same ∙ it'.2 in
    let ends : replies ++ reply ∷ [] ≡ replies' ++ reply' ∷ [] = cc in
    let both = same_end replies replies' reply reply' ends in (
      is ∙ ap (λ known. Some known) both.0 ∙ sym is',
      it.1 ∙ ap (λ (known : SentReply). Some known.bytes) both.1 ∙ sym it'.1,
      ap (λ (known : SentReply). known.faults) both.1,
    )

-- the same input was taken of the same ones
same_taken : (k k' later later' : KnownList) (inputs : List (List ℕ)) (one other : Exchange) → k ≡ Some inputs → k ≡ k'
    → ClientTaken k later one.given → ClientTaken k' later' other.given
    → (later ≡ later') × (one.given ≡ other.given)
same_taken k k' later later' inputs one other is same took took' =
    let it = subst (λ known. ClientTaken known later one.given) is took in
    let it' = subst (λ known. ClientTaken known later' other.given) (sym same ∙ is) took' in
    let both : it.0 ∷ it.1 ≡ it'.0 ∷ it'.1 = sym it.2 ∙ it'.2 in
    let first : it.0 ≡ it'.0 = cc in
    let rest : it.1 ≡ it'.1 = cc in
    (it.4 ∙ ap (λ known. Some known) rest ∙ sym it'.4, it.3 ∙ ap (λ known. Some known) first ∙ sym it'.3)

same_unsent : (r : KnownReplies) (replies : List SentReply) (one : Exchange) → r ≡ Some replies → IsUnsent r one.had → one.had ≡ Some []
same_unsent r replies one is unsent = subst (λ known. IsUnsent known one.had) is unsent

alike : (inputs : List (List ℕ)) (had : List SentReply) (later later' : KnownList) (has has' : KnownReplies)
    (exchanges others : List Exchange) → has ≡ has' → Came (Some inputs) later exchanges → Came (Some inputs) later' others
    → Closed (Some had) has exchanges → Closed (Some had) has' others
    → (later ≡ later') × AllAlike exchanges others
alike inputs had later later' has has' [] [] same came came' closed closed' = (came ∙ sym came', tt)
alike inputs had later later' has has' [] (other ∷ others) same came came' closed closed' =
    absurd (no_other had has has' other others same closed closed')
alike inputs had later later' has has' (one ∷ earlier) [] same came came' closed closed' =
    absurd (no_other had has' has one earlier (sym same) closed' closed)
alike inputs had later later' has has' (one ∷ earlier) (other ∷ others) same came came' closed closed' =
    let known = replies_known had closed.0 earlier closed.1 in
    let known' = replies_known had closed'.0 others closed'.1 in
    let added = same_added closed.0 closed'.0 has has' known.0 known'.0 one other known.1 known'.1 same closed.3 closed'.3 in
    let before = alike inputs had came.0 came'.0 closed.0 closed'.0 earlier others added.0 came.1 came'.1 closed.1 closed'.1 in
    let rest = inputs_known inputs came.0 earlier came.1 in
    let taken = same_taken came.0 came'.0 later later' rest.0 one other rest.1 before.0 came.2 came'.2 in
    let unsent = same_unsent closed.0 known.0 one known.1 closed.2 in
    let unsent' = same_unsent closed'.0 known'.0 other known'.1 closed'.2 in
    (taken.0, ((taken.1, unsent ∙ sym unsent', added.1, added.2), before.1))

pub all_alike : (inputs : List (List ℕ)) (later : KnownList) (had : List SentReply) (has : KnownReplies) (exchanges others : List Exchange)
    → AreAmong (Some inputs) later (Some had) has exchanges → AreAmong (Some inputs) later (Some had) has others
    → AllAlike exchanges others
all_alike inputs later had has exchanges others it it' =
    (alike inputs had it.later it'.later has has exchanges others refl it.came it'.came it.closed it'.closed).1
