-- The files of a name weigh what they are charged, and in sound tables each charge is right.
use Rattle.index_desk.proofs.Words.{◌≡◌, ℕ, ◌+◌, Bool, true, false, cond, not, refl, sym, ap, ◌∙◌, List, [], ◌∷◌, Some, map, filter, sum_by}
use Rattle.index_desk.proofs.Words.{count_by, arith, AllByRecursion, get, entries, false≢true, and_parts, FileRecord, NameRecord, FileRow}
use Rattle.index_desk.proofs.Words.{Bytes, Tables, name_row, file_row_in, file_rows_in, IsSound, charge_in, is_undeleted_of, is_held}
use Rattle.index_desk.proofs.Words.{same-is, is_charged_wrong_in, wrong_charges_in}
use Rattle.std.proofs.lemmas.Bool.{eq-eqb}
use Rattle.std.proofs.lemmas.List.Sums.{sum_by-cons}
use Rattle.index_rules.specs.declared.records.NameRecord.TheVariants as known
use Rattle.index_rules.specs.Sound.{charged_size}
use Rattle.index_rules.specs.Verdict.{held_project}
use Rattle.index_rules.proofs.Totals.{total-zero}
use Rattle.index_desk.specs.Checks.{charge_of}
use Rattle.index_desk.proofs.EntryRows.{each_entry}

module _ (T : Tables) (n : Bytes) where
  sizes_of : (es : List (Bytes × FileRecord)) → sum_by (λ (file : FileRow). file.size)
      (map (file_row_in T n) (filter (λ e. is_undeleted_of n e.1) es)) ≡ sum_by (λ e. charged_size n e.1) es
  sizes_of [] = refl
  sizes_of (e ∷ es) =
      elim (is_undeleted_of n e.1) as (λ b. sum_by (λ (file : FileRow). file.size)
      (map (file_row_in T n) (cond b (e ∷ filter (λ e. is_undeleted_of n e.1) es) (filter (λ e. is_undeleted_of n e.1) es)))
      ≡ cond b e.1.size 0 + sum_by (λ e. charged_size n e.1) es) [
        | true ↦ omega (
          arith,
          sum_by-cons (λ (file : FileRow). file.size) (file_row_in T n e)
              (map (file_row_in T n) (filter (λ e. is_undeleted_of n e.1) es)),
          sizes_of es,
        )
        | false ↦ omega (arith, sizes_of es)
      ]
      ∙ sym (sum_by-cons (λ (e : Bytes × FileRecord). charged_size n e.1) e es)

  -- the rows of a name's files have the sizes that it is charged
  pub sizes_are_charged : sum_by (λ file. file.size) (file_rows_in T n) ≡ charge_in T n
  sizes_are_charged = sizes_of (entries T.files)

-- if no row passes, none is counted
count_by-none : {E R : Type 0} (row : E → R) (test : R → Bool) (es : List E) → AllByRecursion (λ e. test (row e) ≡ false) es
    → count_by test (map row es) ≡ 0
count_by-none row test [] none = refl
count_by-none row test (e ∷ es) none =
    let here : ◌≡◌ {A = ℕ} (cond (test (row e)) 1 0) 0 = ap (λ b. cond b 1 0) none.0 in
    omega (arith, sum_by-cons (λ r. cond (test r) 1 0) (row e) (map row es), here, count_by-none row test es none.1)

module _ (T : Tables) (sound : IsSound T) where
  -- a prohibited name has no undeleted file
  nothing_charged : (n : Bytes) → is_held (get T.names n) ≡ false → charge_in T n ≡ 0
  nothing_charged n free = total-zero (charged_size n) T.files
      (λ file found there. elim (is_undeleted_of n found) as (λ b. is_undeleted_of n found ≡ b → cond b found.size 0 ≡ 0) [
        | true ↦ λ mine.
            let parts = and_parts _ _ mine in
            let held = sound.undeleted_held file found there parts.0 in
            absurd (false≢true (sym free ∙ ap (λ m. is_held (get T.names m)) (same-is n found.project parts.1) ∙ held))
        | false ↦ λ _. refl
      ] refl)

  charge_is_right : (n : Bytes) (found : NameRecord) → get T.names n ≡ Some found → charge_of found ≡ charge_in T n
  charge_is_right n (known.Held project) there = sound.charge n project (ap held_project there)
  charge_is_right n known.Prohibited there = sym (nothing_charged n (ap is_held there))

  -- in sound tables no charge is wrong
  pub none_charged_wrong : wrong_charges_in T ≡ 0
  none_charged_wrong = count_by-none name_row (is_charged_wrong_in T) (entries T.names)
      (each_entry (λ e. is_charged_wrong_in T (name_row e) ≡ false) T.names
      (λ n found there. ap not (eq-eqb _ _ (charge_is_right n found there))))
