-- Work over a database of version 3 and its volume.
use Rattle.index.proofs.Words.{◌≡◌, ◌∙◌, ℕ, List, Result, Ok, Err, Some, inl, inr, subst, sym, ap, true≢false, cases_Bool, ◌↔◌, is_ok}
use Rattle.index.proofs.Words.{FileStore, Held, Ghosts, Files, read_digest, BadFirstUser, IsBadFirstUser, Bytes, Unopened, Unclosed, End}
use Rattle.index.proofs.Words.{Open, closing_of, end_by, is_fault_end, is_store, IsBadFirstUserByHex, IsToldOf, WorksOver, placed_side}
use Rattle.index.proofs.Words.{Task}
use Rattle.std.specs.Prelude.{IfErr, IsTrue}
use Rattle.sqlite_trees.specs.declared.store.Store as store
use Rattle.index.specs.declared.database.Left.TheVariants.{Refused}
use Rattle.index.specs.Pairs.{AreKept, EndsOnPlaced, IsToldOver}

-- what was done to books was done to the connection that they gave back
pub worked_on : {S E : Type 0} (g : store.Ghosts S) (e : Ghosts E) (task : Task) (result : Result ℕ End) (first last now : Held S)
    (first_disk last_disk : E)
    → now ≡ last → WorksOver task result (placed_side g e first first_disk) (placed_side g e last last_disk)
    → WorksOver task result (placed_side g e first first_disk) (placed_side g e now last_disk)
worked_on g e task result first last now first_disk last_disk same worked =
    subst (λ held. WorksOver task result (placed_side g e first first_disk) (placed_side g e held last_disk)) (sym same) worked

pub kept_on : {S E : Type 0} (g : store.Ghosts S) (e : Ghosts E) (last now : Held S) (disk : E)
    → now ≡ last → AreKept g e last disk → AreKept g e now disk
kept_on g e last now disk same kept = subst (λ held. AreKept g e held disk) (sym same) kept

-- work that is as it was before nothing was done on the files
pub ends_from : {D E W : Type 0} {g : Ghosts D} {e : Ghosts E} (task : W → W → Task) (was mid now : W) {conn : Held (FileStore D g)}
    {volume : List ℕ} {result : Result ℕ End}
    → mid ≡ was → EndsOnPlaced e (task mid now) conn volume result → EndsOnPlaced e (task was now) conn volume result
ends_from {e = e} task was mid now {conn = conn} {volume = volume} {result = result} idle ends =
    subst (λ it. EndsOnPlaced e (task it now) conn volume result) idle ends

-- what is said of a connection is said of one that is the same
pub ends_on : {D E : Type 0} {g : Ghosts D} {e : Ghosts E} {task : Task} {now conn : Held (FileStore D g)} {volume : List ℕ}
    {result : Result ℕ End} → now ≡ conn → EndsOnPlaced e task now volume result → EndsOnPlaced e task conn volume result
ends_on {e = e} {task = task} {volume = volume} {result = result} same ends =
    subst (λ held. EndsOnPlaced e task held volume result) same ends

-- the result of work and of closing is told
pub told_over : (early : Result ℕ End) (closing closed : Result (Unit {0}) End) (ended told : Result ℕ End)
    → ended ≡ end_by early closing → closing ≡ closed → IsToldOver ended told → IsToldOver (end_by early closed) told
told_over early closing closed ended told is same over = subst (λ it. IsToldOver it told) (is ∙ ap (end_by early) same) over

-- ---- an init

-- closing ends as a fault, and never for a first user
pub closed_fault : {D : Type 0} {g : Ghosts D} (closed : Result (Files D) (Unclosed D g))
    → IfErr closed (λ it. IsTrue (is_fault_end it.fault)) → ¬ (closing_of closed ≡ Err (Open BadFirstUser))
closed_fault (Ok files) fault is = true≢false (ap is_ok is)
closed_fault (Err unclosed) fault is =
    let same : unclosed.fault ≡ Open BadFirstUser = cc in
    true≢false (sym fault ∙ ap is_fault_end same)

-- what is told of a database is that it was refused for its first user, only if it was
pub refused_for_user : {D : Type 0} {g : Ghosts D} (left : Unopened (FileStore D g)) (told : End)
    → IsToldOf (Open left.why) (Some (Refused left)) told → told ≡ Open BadFirstUser → left.why ≡ BadFirstUser
refused_for_user left told tells is = elim (cases_Bool (is_store (Open left.why))) [
  | inl store ↦ absurd (true≢false (ap is_store (sym (tells.1 store).1 ∙ is)))
  | inr other ↦ let same : Open left.why ≡ Open BadFirstUser = sym (tells.0 other) ∙ is in cc
]

-- a fault is not that of a first user
pub no_first_user : {A : Type 0} (user digits : Bytes) (told : End) → IsTrue (is_fault_end told) → (¬ IsBadFirstUserByHex user digits)
    → (◌≡◌ {A = Result A End} (Err told) (Err (Open BadFirstUser))) ↔ IsBadFirstUserByHex user digits
no_first_user user digits told fault valid = (
  (λ is. let same : told ≡ Open BadFirstUser = cc in
      absurd (true≢false (sym fault ∙ ap is_fault_end same))),
  (λ bad. absurd (valid bad)),
)

-- nor is what ends so only for a first user who is not valid
pub only_first_user : {A : Type 0} (user digits digest : Bytes) (result : Result A End) → read_digest digits ≡ Some digest
    → (result ≡ Err (Open BadFirstUser) → IsBadFirstUser user digest) → (¬ IsBadFirstUserByHex user digits)
    → (result ≡ Err (Open BadFirstUser)) ↔ IsBadFirstUserByHex user digits
only_first_user user digits digest result read only valid = (
  (λ is. inr (digest, read, only is)),
  (λ bad. absurd (valid bad)),
)
