-- The place that ends last, as a walk over the files finds it.
use Rattle.index_tables.proofs.Words.{◌≡◌, ◌∙◌, ◌==◌, ◌&&◌, ℕ, Bool, true, false, not, length, List, [], Option, Some, None, option_map}
use Rattle.index_tables.proofs.Words.{Result, Ok, Err, OnOk, refl, sym, ap, inl, inr, true≢false, cases_Bool, Ghosts, Held, state}
use Rattle.index_tables.proofs.Words.{Bytes, Tables, IsIndexConnection, last_from, HasVersion, Fault, IsHonest, Leaves}
use Rattle.std.proofs.Common.{cond, find, nat_lt, ◌∷◌, ◌++◌}
use Rattle.std.proofs.lemmas.Bool.{and_parts, eqb-true, le-ltb, ltb-false}
use Rattle.std.proofs.lemmas.List.{append_assoc}
use Rattle.std.specs.FinMap.{entries}
use Rattle.index_rules.proofs.EntryLemmas.{find-passes, get-found}
use Rattle.index_rules.specs.Rows.{StoppedAmong, Took}
use Rattle.index_rules.specs.declared.answer.Fault.TheVariants as fault
use Rattle.index_volume.specs.Places.{LiesBelow, place_end, place_length}
use Rattle.index_volume_books.specs.Last.{are_places, ending_later}
use Rattle.index_volume_books.specs.Over.{Fits}
use Rattle.index_tables.specs.Places.{IsOpenedIfOk, StopsAtPlace, TakesPlace, greatest_number, is_later, place_of}

-- of two places the one that ends later
later_is : (acc : Option (Bytes × Bytes)) (row : Bytes × Bytes)
    → cond (is_later (option_map place_of acc) (place_end row.1)) (Some (place_of row)) (option_map place_of acc)
    ≡ option_map place_of (ending_later acc row)
later_is None row = refl
later_is (Some last) row =
    elim (nat_lt (place_end last.1) (place_end row.1))
    as (λ b. cond b (Some (place_of row)) (Some (place_of last)) ≡ option_map place_of (cond b (Some row) (Some last)))
    [ true ↦ refl | false ↦ refl ]

-- a taker of all rows has the last of them, and each is a place
pub took_last : {K : Type 0} (last : K → Option (Bytes × ℕ)) (rows : List (Bytes × Bytes)) (a b : K)
    (acc : Option (Bytes × Bytes)) → last a ≡ option_map place_of acc
    → Took (λ before row after. TakesPlace (last before) row (last after)) rows a b
    → (last b ≡ option_map place_of (last_from acc rows)) × (are_places rows ≡ true)
took_last last [] a b acc at same = (ap last same ∙ at, refl)
took_last last (row ∷ rows) a b acc at (mid, takes, more) =
    let next : last mid ≡ option_map place_of (ending_later acc row) =
    takes.last ∙ ap (λ before. cond (is_later before (place_end row.1)) (Some (place_of row)) before) at ∙ later_is acc row in
    let it = took_last last rows mid b (ending_later acc row) next more in
    (it.0, ap (λ size. (size == place_length) && are_places rows) takes.size ∙ it.1)

-- its file is that of the entry
pub file_is : (acc : Option (Bytes × Bytes))
    → option_map (λ last. last.0) (option_map place_of acc) ≡ option_map (λ entry. entry.0) acc
file_is None = refl
file_is (Some entry) = refl

-- whether an entry has no place that ends where one can
abbrev is_no_place : Bytes × Bytes → Bool
is_no_place entry = not ((length entry.1 == place_length) && not (nat_lt greatest_number (place_end entry.1)))

not_false : (b : Bool) → not b ≡ false → b ≡ true
not_false true e = refl
not_false false e = absurd (true≢false e)

not_true : (b : Bool) → not b ≡ true → b ≡ false
not_true true e = absurd (true≢false (sym e))
not_true false e = refl

is_place : (entry : Bytes × Bytes) → LiesBelow greatest_number entry.1 → is_no_place entry ≡ false
is_place entry place =
    ap (λ size. not ((size == place_length) && not (nat_lt greatest_number (place_end entry.1)))) place.size
    ∙ ap (λ past. not (not past)) (le-ltb greatest_number (place_end entry.1) place.within)

lies_below : (entry : Bytes × Bytes) → is_no_place entry ≡ false → LiesBelow greatest_number entry.1
lies_below entry passed =
    let parts = and_parts (length entry.1 == place_length) (not (nat_lt greatest_number (place_end entry.1))) (not_false _ passed) in
    record {
      size = eqb-true (length entry.1) place_length parts.0;
      within = ltb-false greatest_number (place_end entry.1) (not_true _ parts.1);
    }

none_is_no_place : (T : Tables) → Fits greatest_number T → find is_no_place (entries T.bodies) ≡ None
none_is_no_place T fits = elim (find is_no_place (entries T.bodies))
    as (λ found. find is_no_place (entries T.bodies) ≡ found → found ≡ None) [
      | None ↦ λ _. refl
      | Some entry ↦ λ found. absurd (true≢false (sym (find-passes is_no_place (entries T.bodies) entry found)
          ∙ is_place entry (fits entry.0 entry.1 (get-found T.bodies is_no_place entry found))))
    ] refl

-- what passes no test among others passes it by itself
passed_by : {A : Type 0} (test : A → Bool) (front rest : List A) (x : A) → find test (front ++ x ∷ rest) ≡ None → test x ≡ false
passed_by test [] rest x missed = elim (cases_Bool (test x)) [
  | inl passes ↦ absurd (let found : find test (x ∷ rest) ≡ Some x = rw passes refl in cc)
  | inr fails ↦ fails
]
passed_by test (y ∷ front) rest x missed = elim (cases_Bool (test y)) [
  | inl passes ↦ absurd (let found : find test (y ∷ front ++ x ∷ rest) ≡ Some y = rw passes refl in cc)
  | inr fails ↦ passed_by test front rest x
      (sym (let left_out : find test (y ∷ front ++ x ∷ rest) ≡ find test (front ++ x ∷ rest) = rw fails refl in left_out) ∙ missed)
]

-- a taker stops among entries that all have places only for want of memory
pub stops_among_places : {K : Type 0} (takes : K → Bytes × Bytes → K → Type 0) (why : K → Fault) (T : Tables) (before after : K)
    → Fits greatest_number T
    → StoppedAmong takes (λ _ row after. StopsAtPlace row (why after)) (entries T.bodies) before after → why after ≡ fault.Store → ⊥
stops_among_places takes why T before after fits (given, left, split, stopped) is =
    let entries_are : entries T.bodies ≡ stopped.taken ++ stopped.row ∷ left =
    split ∙ ap (λ rows. rows ++ left) stopped.split ∙ append_assoc stopped.taken (stopped.row ∷ []) left in
    let missed : find is_no_place (stopped.taken ++ stopped.row ∷ left) ≡ None =
    ap (find is_no_place) (sym entries_are) ∙ none_is_no_place T fits in
    stopped.stopped is (lies_below stopped.row (passed_by is_no_place stopped.taken left stopped.row missed))

-- books that could be looked at are honest as far as it is said what a crash leaves of them
pub works_if_open : {S A E : Type 0} (number : ℕ) (g : Ghosts S) (held : Held S) (result : Result A E)
    → IsIndexConnection g held → HasVersion number g held → IsOpenedIfOk g held result
    → OnOk result ((T : Tables) → Leaves number (state g held) T → IsHonest number (state g held))
works_if_open number g held (Ok done) index version opened = λ T left.
    let clean = left.0 in
    let is_open = opened clean in
    record {
      clean = clean;
      is_open = is_open;
      index = index.index clean is_open;
      committed = index.committed clean is_open;
      version = version clean is_open;
    }
works_if_open number g held (Err error) index version opened = tt
