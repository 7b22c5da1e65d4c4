-- What a write answers.
use Rattle.index_tables.proofs.Words.{◌≡◌, ℕ, IsTrue, ◌⊎◌, inl, inr, Result, Ok, Err, IfErr, OnOk, false, is_ok, ap, subst, sym, ◌∙◌}
use Rattle.index_tables.proofs.Words.{true≢false, cases_Bool, HasCleanDisk, AreRecords, tables_in, IsSettled, settled_at, Ghosts, Error}
use Rattle.index_tables.proofs.Words.{Database, Held, state, AreRefused, fault_by, HasReason, Fault, MakesChange, IsInvisibleIfShut}
use Rattle.index_tables.proofs.Words.{IsIndex, meta_in, version_among, version_in, IsIndexConnection, Tables, BooksState, HasVersion}
use Rattle.index_tables.proofs.Words.{IsHonest, IsWorking, Leaves, KeepsLimit}
use Rattle.index_sql_writes.specs.StepAsks.{FailsForRefusal}
use Rattle.index_rules.specs.declared.answer.Fault.TheVariants as fault
use Rattle.index_rules.specs.declared.change.Change.{Change}
use Rattle.index_sql_writes.specs.ChangeAsks.{asks_of}
use Rattle.index_tables.specs.LooksUp.{HasMetaOf, KeepsMeta}

-- an error that is told as a fault has the reason of the error
pub told_reason : {A S : Type 0} (g : Ghosts S) (change : Change) (old new : Held S) (made : Result A Error) (told : Result A Fault)
    → is_ok told ≡ is_ok made → IfErr made (λ error. told ≡ Err (fault_by error))
    → IfErr made (FailsForRefusal (asks_of change) (state g old) (state g new))
    → IfErr told (λ it. it ≡ fault.Store → HasReason (state g old) (state g new) ⊎ AreRefused (asks_of change) (state g old).now)
told_reason g change old new made (Ok done) ok says reason = tt
told_reason g change old new (Ok done) (Err it) ok says reason = absurd (true≢false (sym ok))
told_reason g change old new (Err e) (Err it) ok says reason = λ store. let same : it ≡ fault_by e = cc in reason (sym same ∙ store)

-- a change leaves the limit on the steps of queries as it was
pub limit_kept : {S A : Type 0} (g : Ghosts S) (change : Tables → Tables) (old new : Held S) (made : Result A Error)
    → IsIndexConnection g old → MakesChange g change old new made
    → IsWorking (state g new) → KeepsLimit (state g old) (state g new)
limit_kept g change old new made index makes working =
    let clean = makes.was_clean working.clean in
    let was = makes.was_open working.clean working.is_open in
    (makes.crash was (index.index clean was)).limit

-- and the rows of meta, whatever it answers
meta_stays : {S A : Type 0} (number : ℕ) (g : Ghosts S) (change : Tables → Tables) (old new : Held S) (made : Result A Error)
    → IsIndexConnection g old → MakesChange g change old new made
    → IsHonest number (state g new) → HasMetaOf (state g old).now (state g new).now.trees
meta_stays number g change old new (Ok done) index makes honest =
    let clean = makes.was_clean honest.clean in
    let was = makes.was_open honest.clean honest.is_open in
    (makes.made honest.clean was (index.index clean was)).meta
meta_stays number g change old new (Err e) index makes honest =
    let clean = makes.was_clean honest.clean in
    let was = makes.was_open honest.clean honest.is_open in
    ap (λ (d : Database). meta_in d.trees) ((makes.unchanged honest.clean honest.is_open (index.index clean was)).0
    ∙ sym (index.committed clean was))

pub meta_kept : {S A : Type 0} (number : ℕ) (g : Ghosts S) (change : Tables → Tables) (old new : BooksState S) (made : Result A Error)
    → IsIndexConnection g old.conn → MakesChange g change old.conn new.conn made → KeepsMeta number g old new
meta_kept number g change old new made index makes = record {
  stays = meta_stays number g change old.conn new.conn made index makes;
  crash = λ working clean db may. elim ((makes.crash working.is_open (index.index working.clean working.is_open)).crash clean db may)
      [ inl before ↦ inl before | inr whole ↦ inr whole.1 ];
}

-- so it keeps the version
pub write_keeps_version : {S A : Type 0} (number : ℕ) (g : Ghosts S) (change : Tables → Tables) (old new : Held S) (made : Result A Error)
    → IsIndexConnection g old → MakesChange g change old new made
    → HasVersion number g old → HasVersion number g new
write_keeps_version number g change old new (Ok done) index makes kept clean o =
    let was_clean = makes.was_clean clean in
    let was = makes.was_open clean o in
    ap version_among (makes.made clean was (index.index was_clean was)).meta ∙ kept was_clean was
write_keeps_version number g change old new (Err e) index makes kept clean o =
    let was_clean = makes.was_clean clean in
    let was = makes.was_open clean o in
    ap (λ (d : Database). version_in d.trees) ((makes.unchanged clean o (index.index was_clean was)).0
    ∙ sym (index.committed was_clean was)) ∙ kept was_clean was

-- ---- what a write leaves, by what a change leaves of the connection

pub told_ok : {A B E F : Type 0} (P : Type 0) (told : Result B F) (made : Result A E) → is_ok told ≡ is_ok made → OnOk made P → OnOk told P
told_ok P (Ok x) (Ok y) same it = it
told_ok P (Ok x) (Err e) same it = absurd (true≢false same)
told_ok P (Err f) made same it = tt

module _ {S A : Type 0} (number : ℕ) (g : Ghosts S) (change : Tables
    → Tables) (old new : Held S) (made : Result A Error) (index : IsIndexConnection g old) (makes : MakesChange g change old new made) where
  pub index_after : IsIndexConnection g new
  index_after = by made makes
    where
      by : (m : Result A Error) → MakesChange g change old new m → IsIndexConnection g new
      by (Ok x) it =
          let done = λ (clean : HasCleanDisk (state g new)) (o : IsTrue (state g new).is_open). it.made clean (it.was_open clean o)
          (index.index (it.was_clean clean) (it.was_open clean o)) in
          record { outside = it.outside; index = λ clean o. (done clean o).index; committed = λ clean o. sym (done clean o).committed }
      by (Err e) it =
          let undone = λ (clean : HasCleanDisk (state g new)) (o : IsTrue (state g new).is_open). it.unchanged clean o
          (index.index (it.was_clean clean) (it.was_open clean o)) in
          record {
            outside = it.outside;
            index = λ clean o. subst IsIndex (sym ((undone clean o).0 ∙ sym (index.committed (it.was_clean clean) (it.was_open clean o))))
                (index.index (it.was_clean clean) (it.was_open clean o));
            committed = λ clean o. (undone clean o).0 ∙ sym (undone clean o).1;
          }

  module _ (kept : HasVersion number g old) where
    honest_at : (held : Held S) → IsIndexConnection g held → HasVersion number g held → HasCleanDisk (state g held)
        → IsTrue (state g held).is_open → IsHonest number (state g held)
    honest_at held it version clean o = record {
      clean = clean;
      is_open = o;
      index = it.index clean o;
      committed = it.committed clean o;
      version = version clean o;
    }

    pub honest_old : IsHonest number (state g new) → IsHonest number (state g old)
    honest_old honest = honest_at old index kept (makes.was_clean honest.clean) (makes.was_open honest.clean honest.is_open)

    honest_new : HasCleanDisk (state g new) → IsTrue (state g new).is_open → IsHonest number (state g new)
    honest_new = honest_at new index_after (write_keeps_version number g change old new made index makes kept)

    pub write_lasts : OnOk made (HasCleanDisk (state g new) → IsHonest number (state g new))
    write_lasts = by made makes
      where
        by : (m : Result A Error) → MakesChange g change old new m → OnOk m (HasCleanDisk (state g new) → IsHonest number (state g new))
        by (Ok x) it = λ clean. honest_new clean (it.opened clean)
        by (Err e) it = tt

    pub write_crash : IsInvisibleIfShut g old new → (T : Tables) → Leaves number (state g new) T
        → Leaves number (state g old) T ⊎ (IsHonest number (state g old) × (T ≡ change (tables_in (state g old).now.trees)))
    write_crash shut T (clean, (db, may, is)) = by (cases_Bool (state g old).is_open)
      where
        at_old : HasCleanDisk (state g old)
        at_old = makes.was_clean clean

        by : IsTrue (state g old).is_open ⊎ ((state g old).is_open ≡ false)
            → Leaves number (state g old) T ⊎ (IsHonest number (state g old) × (T ≡ change (tables_in (state g old).now.trees)))
        by (inr closed) = elim ((shut closed).crash clean db may) [ inl before ↦ inl (at_old, (db, before, is)) | inr none ↦ absurd none ]
        by (inl o) = elim ((makes.crash o (index.index at_old o)).crash clean db may) [
          | inl before ↦ inl (at_old, (db, before, is))
          | inr whole ↦ inr (
            honest_at old index kept at_old o,
            is (record { index = whole.2; version = ap version_among whole.1 ∙ kept at_old o }) ∙ whole.0,
          )
        ]

    pub write_alone : IsSettled (state g new) → IsHonest number (state g old)
        → OnOk made ((T : Tables) → Leaves number (state g new) T → T ≡ change (tables_in (state g old).now.trees))
    write_alone settled honest = by made makes
      where
        by : (m : Result A Error) → MakesChange g change old new m
            → OnOk m ((T : Tables) → Leaves number (state g new) T → T ≡ change (tables_in (state g old).now.trees))
        by (Ok x) it = λ T left. let clean = left.0 in
            settled_at (honest_new clean (it.opened clean)) settled T left
            ∙ (it.made clean honest.is_open (index.index honest.clean honest.is_open)).tables
        by (Err e) it = tt

    pub write_records : IsHonest number (state g new) → AreRecords (state g old).now → AreRecords (state g new).now
    write_records honest were = by made makes
      where
        by : (m : Result A Error) → MakesChange g change old new m → AreRecords (state g new).now
        by (Ok x) it =
            let was = it.was_open honest.clean honest.is_open in
            (it.made honest.clean was (index.index (it.was_clean honest.clean) was)).records were
        by (Err e) it =
            let was = it.was_open honest.clean honest.is_open in
            subst AreRecords (sym ((it.unchanged honest.clean honest.is_open (index.index (it.was_clean honest.clean) was)).0
            ∙ sym (index.committed (it.was_clean honest.clean) was))) were
