-- What a word of a history is if an entry's request is read as a key, and if it is not.
use Rattle.index_rules.proofs.Words.{◌≡◌, false, cond, ap, ◌∙◌, Option, Some, None, is_none, option_map, true≢false, Spelled}
use Rattle.index_rules.proofs.Words.{read_file_name, Bytes, same, read_file, or_empty, is_read_as}
use Rattle.index_rules.proofs.KeyLemmas.{same-refl}

-- what is not unread is read as its key
pub read_key : (read : Option Bytes) → is_none read ≡ false → read ≡ Some (or_empty read)
read_key None unread = absurd (true≢false unread)
read_key (Some x) unread = λ _. Some x

-- a file name is read as itself
pub read_itself : (file : Bytes) → is_none (read_file file) ≡ false → read_file file ≡ Some file
unfolding read_file
read_itself file unread = by (read_file_name file) unread
  where
    by : (spelled : Option Spelled) → is_none (option_map (λ _. file) spelled) ≡ false → option_map (λ _. file) spelled ≡ Some file
    by None unread = absurd (true≢false unread)
    by (Some spelled) unread = λ _. Some file

module _ {A : Type 0} (read : Option Bytes) (k : Bytes) (reads : read ≡ Some k) (new old : A) where
  pub by_key : (q : Bytes) → cond (is_read_as read q) new old ≡ cond (same q k) new old
  by_key q = ap (λ r. cond (is_read_as r q) new old) reads

  pub at_key : cond (is_read_as read k) new old ≡ new
  at_key = by_key k ∙ ap (λ b. cond b new old) (same-refl k)

  pub at_other : (q : Bytes) → same q k ≡ false → cond (is_read_as read q) new old ≡ old
  at_other q other = by_key q ∙ ap (λ b. cond b new old) other
