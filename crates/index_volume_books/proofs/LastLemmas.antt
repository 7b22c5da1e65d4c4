-- The entry of `bodies` whose place ends last.
use Rattle.index_volume_books.proofs.Words.{◌≡◌, ◌<◌, ◌≤◌, ℕ, Bool, true, false, not, cond, length, List, [], Some, None, option_map, refl}
use Rattle.index_volume_books.proofs.Words.{sym, ap, subst, ◌∙◌, arith, inl, inr, false≢true, get, Bytes, Tables, place_end, Fits, IsLast}
use Rattle.std.proofs.Common.{◌==◌, nat_lt, ◌∷◌, find}
use Rattle.std.proofs.lemmas.Bool.{and_parts, cases_Bool, eqb-true, le-ltb, lt-ltb, ltb-false, ltb-true}
use Rattle.std.specs.FinMap.{entries}
use Rattle.index_rules.proofs.EntryLemmas.{get-found, get-missed}
use Rattle.index_volume.specs.Places.{place_length}
use Rattle.index_volume_books.specs.Last.{are_places, last_from}

-- whether a place ends behind this end
abbrev pub behind : ℕ → Bytes × Bytes → Bool
behind end e = nat_lt end (place_end e.1)

-- whether a place ends at this end or behind it
abbrev pub reaches : ℕ → Bytes × Bytes → Bool
reaches end e = not (nat_lt (place_end e.1) end)

-- this entry is the first of a list whose place ends last
record IsLastOf (last : Bytes × Bytes) (es : List (Bytes × Bytes)) : Type 0 where
  pub first : find (reaches (place_end last.1)) es ≡ Some last
  pub none : find (behind (place_end last.1)) es ≡ None

-- an entry that is not found by a test is not passed by it
head_missed : (p : Bytes × Bytes → Bool) (e : Bytes × Bytes) (es : List (Bytes × Bytes)) → find p (e ∷ es) ≡ None → p e ≡ false
head_missed p e es missed = elim (cases_Bool (p e)) [
  | inl passes ↦ absurd (let found : find p (e ∷ es) ≡ Some e = rw passes refl in cc)
  | inr fails ↦ fails
]

-- an entry that no test passes is left out
skipped : (p : Bytes × Bytes → Bool) (e : Bytes × Bytes) (es : List (Bytes × Bytes)) → p e ≡ false → find p (e ∷ es) ≡ find p es
skipped p e es fails = rw fails refl

-- the last of a list is that of the list behind an entry that ends before it
behind_earlier : (last e : Bytes × Bytes) (es : List (Bytes × Bytes)) → IsLastOf last es → place_end e.1 < place_end last.1
    → IsLastOf last (e ∷ es)
behind_earlier last e es is less = record {
  first = skipped (reaches (place_end last.1)) e es (ap not (lt-ltb (place_end e.1) (place_end last.1) less)) ∙ is.first;
  none = skipped (behind (place_end last.1)) e es (le-ltb (place_end last.1) (place_end e.1) (omega (arith, less))) ∙ is.none;
}

-- the last of a list that begins with an entry is that of the list with one more behind this entry, which ends no later than it
behind_first : (last l e : Bytes × Bytes) (es : List (Bytes × Bytes)) → IsLastOf last (l ∷ es) → place_end e.1 ≤ place_end l.1
    → IsLastOf last (l ∷ e ∷ es)
behind_first last l e es is less = elim (cases_Bool (reaches (place_end last.1) l)) [
  | inl here ↦ record {
    first = (let was : find (reaches (place_end last.1)) (l ∷ es) ≡ Some l = rw here refl in
        let now : find (reaches (place_end last.1)) (l ∷ e ∷ es) ≡ Some l = rw here refl in now ∙ sym was ∙ is.first);
    none = none;
  }
  | inr past ↦ record {
    first = skipped (reaches (place_end last.1)) l (e ∷ es) past
        ∙ skipped (reaches (place_end last.1)) e es (ap not (lt-ltb (place_end e.1) (place_end last.1) (omega (arith, less, before past))))
        ∙ sym (skipped (reaches (place_end last.1)) l es past) ∙ is.first;
    none = none;
  }
]
  where
    not_false : (b : Bool) → not b ≡ false → b ≡ true
    not_false true e = refl
    not_false false e = absurd (false≢true (sym e))

    before : reaches (place_end last.1) l ≡ false → place_end l.1 < place_end last.1
    before past = ltb-true (place_end l.1) (place_end last.1) (not_false (nat_lt (place_end l.1) (place_end last.1)) past)

    within : place_end l.1 ≤ place_end last.1
    within = ltb-false (place_end last.1) (place_end l.1) (head_missed (behind (place_end last.1)) l es is.none)

    none : find (behind (place_end last.1)) (l ∷ e ∷ es) ≡ None
    none = skipped (behind (place_end last.1)) l (e ∷ es) (le-ltb (place_end last.1) (place_end l.1) within)
        ∙ skipped (behind (place_end last.1)) e es (le-ltb (place_end last.1) (place_end e.1) (omega (arith, within, less)))
        ∙ sym (skipped (behind (place_end last.1)) l es (le-ltb (place_end last.1) (place_end l.1) within))
        ∙ is.none

last_of_one : (l : Bytes × Bytes) → IsLastOf l (l ∷ [])
last_of_one l =
    let same : nat_lt (place_end l.1) (place_end l.1) ≡ false = le-ltb (place_end l.1) (place_end l.1) (omega arith) in
    record { first = rw same refl; none = rw same refl }

last_of : (l : Bytes × Bytes) (es : List (Bytes × Bytes))
    → (last : Bytes × Bytes) × (last_from (Some l) es ≡ Some last) × IsLastOf last (l ∷ es)
last_of l [] = (l, refl, last_of_one l)
last_of l (e ∷ es) = elim (cases_Bool (nat_lt (place_end l.1) (place_end e.1))) [
  | inl less ↦
      let it = last_of e es in
      let low : place_end l.1 < place_end e.1 = ltb-true (place_end l.1) (place_end e.1) less in
      let high : place_end e.1 ≤ place_end it.0.1 =
      ltb-false (place_end it.0.1) (place_end e.1) (head_missed (behind (place_end it.0.1)) e es it.2.none) in
      (it.0, ap (λ b. last_from (cond b (Some e) (Some l)) es) less ∙ it.1, behind_earlier it.0 l (e ∷ es) it.2 (omega (arith, low, high)))
  | inr more ↦
      let it = last_of l es in (
        it.0,
        ap (λ b. last_from (cond b (Some e) (Some l)) es) more ∙ it.1,
        behind_first it.0 l e es it.2 (ltb-false (place_end l.1) (place_end e.1) more),
      )
]

-- ---- texts of the length of a place

abbrev is_other_length : Bytes × Bytes → Bool
is_other_length e = not (length e.1 == place_length)

no_other_length : (es : List (Bytes × Bytes)) → are_places es ≡ true → find is_other_length es ≡ None
no_other_length [] are = refl
no_other_length (e ∷ es) are =
    let parts = and_parts (length e.1 == place_length) (are_places es) are in
    skipped is_other_length e es (ap not parts.0) ∙ no_other_length es parts.1

not_false : (b : Bool) → not b ≡ false → b ≡ true
not_false true e = refl
not_false false e = absurd (false≢true (sym e))

has_length : (T : Tables) → are_places (entries T.bodies) ≡ true → (file place : Bytes) → get T.bodies file ≡ Some place
    → length place ≡ place_length
has_length T are file place at =
    eqb-true (length place) place_length (not_false (length place == place_length)
    (get-missed T.bodies is_other_length file place (no_other_length (entries T.bodies) are) at))

-- ---- the last of the entries of `bodies`

is_last_of : (T : Tables) (es : List (Bytes × Bytes)) → entries T.bodies ≡ es → are_places (entries T.bodies) ≡ true
    → IsLast T (option_map (λ e. e.0) (last_from None es))
is_last_of T [] is are = λ file place at. absurd
    (false≢true (sym (get-missed T.bodies (λ _. true) file place (ap (find (λ _. true)) is) at)))
is_last_of T (l ∷ es) is are =
    let it = last_of l es in
    let last : (place : Bytes) × (get T.bodies it.0.0 ≡ Some place) × Fits (place_end place) T = (
      it.0.1,
      get-found T.bodies (reaches (place_end it.0.1)) it.0 (ap (find (reaches (place_end it.0.1))) is ∙ it.2.first),
      λ file place at. record {
        size = has_length T are file place at;
        within = ltb-false (place_end it.0.1) (place_end place)
            (get-missed T.bodies (behind (place_end it.0.1)) file place (ap (find (behind (place_end it.0.1))) is ∙ it.2.none) at);
      },
    )
    in
    subst (λ found. IsLast T (option_map (λ e. e.0) found)) (sym it.1) last

-- of entries that are all places the last is the last of the tables
pub is_last : (T : Tables) → are_places (entries T.bodies) ≡ true → IsLast T (option_map (λ e. e.0) (last_from None (entries T.bodies)))
is_last T are = is_last_of T (entries T.bodies) refl are
