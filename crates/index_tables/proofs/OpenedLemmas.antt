-- Books that are opened on a connection, or not.
use Rattle.index_tables.proofs.Words.{◌≡◌, ℕ, ◌∙◌, ap, Bool, inl, inr, false, IsTrue, List, Some, Result, Ok, Err, refl, subst, sym, Trees}
use Rattle.index_tables.proofs.Words.{Ghosts, Error, Database, Held, state, HasCleanDisk, fault_by, IsIndex, meta_in, version_in}
use Rattle.index_tables.proofs.Words.{version_among, IsIndexConnection, QueriesOnly, on_store, AreRecords, tables_in, Fault, OpenFault}
use Rattle.index_tables.proofs.Words.{Bytes, Tables, Unopened, AreCurrent, HasVersion, IsHonest, IsWorking, IsSettled, settled_at}
use Rattle.index_tables.proofs.Words.{AreOpened, CrashLeavesOrMakes, IsUnopened, KeepsLimit, StoreForRefusal, open_fault_by}
use Rattle.sqlite_value.specs.Order.{Row}
use Rattle.index_sql_opening.specs.Making.{IsAtRest, MakesIndex, MakesNewIndex}
use Rattle.index_sql_schema.specs.OnStore.{ConnectionStep}
use Rattle.index_sql_writes.specs.Asks.{Ask}
use Rattle.index_rules.specs.declared.answer.Fault.TheVariants as fault
use Rattle.index_rules.specs.declared.open.OpenFault.TheVariants as open_fault
use Rattle.index_rules.specs.declared.records.UserRecord.{UserRecord}
use Rattle.index_tables.proofs.KeptLemmas.{keeps}

store_by : (f : Fault) → open_fault_by f ≡ open_fault.Store → f ≡ fault.Store
store_by fault.Store same = refl
store_by fault.OutOfMemory same = absurd (let s = same in cc)

module _ {S : Type 0} (number : ℕ) (g : Ghosts S) (Made : Database → Trees → Type 0) (old new : Held S) where
  -- books that are honest if the connection worked leave their tables alone
  opened_by : IsSettled (state g new) → (HasCleanDisk (state g new) → HasCleanDisk (state g old))
      → (HasCleanDisk (state g new) → IsTrue (state g new).is_open → IsTrue (state g old).is_open)
      → (IsWorking (state g old) → HasCleanDisk (state g new) → IsHonest number (state g new))
      → CrashLeavesOrMakes Made (state g old) (state g new)
      → (IsWorking (state g new) → KeepsLimit (state g old) (state g new))
      → (AreRecords (state g old).now → IsWorking (state g new) → AreRecords (state g new).now)
      → AreOpened number g Made old (record { conn = new; failures = 0; stores = 0 })
  opened_by settled was_clean was_open lasts crash limit records = record {
    was_working = λ working. record { clean = was_clean working.clean; is_open = was_open working.clean working.is_open };
    was_clean = was_clean;
    lasts = lasts;
    failures = refl;
    stores = refl;
    limit = limit;
    records = records;
    crash = crash;
    alone = λ working T left. settled_at (lasts working left.0) settled T left;
  }

  -- a look leaves nothing new
  module _ {did : Bool} (looks : QueriesOnly g old new did) (rest : IsAtRest g old) where
    looked_crash : CrashLeavesOrMakes Made (state g old) (state g new)
    looked_crash working clean db may = elim (looks.survives.crash clean db may) [ inl before ↦ inl before | inr none ↦ absurd none ]

    pub looked_opened : IsTrue did → IsSettled (state g new) → (IsTrue (state g old).is_open → IsIndex (state g old).now)
        → (HasCleanDisk (state g new) → version_in (state g old).now.trees ≡ Some number)
        → AreOpened number g Made old (record { conn = new; failures = 0; stores = 0 })
    looked_opened right settled index told = opened_by settled looks.was_clean looks.was_open
        (λ working clean. keeps number g old new did right looks
        (record {
          clean = working.clean;
          is_open = working.is_open;
          index = index working.is_open;
          committed = rest.settled working.clean working.is_open;
          version = told clean;
        }) clean)
        looked_crash (λ _. looks.survives.limit)
        (λ records working. subst AreRecords (sym (looks.now_is working.clean working.is_open)) records)

    pub looked_refused : {Reason : Held S → Held S → OpenFault → Type 0} (why : OpenFault)
        → (HasCleanDisk (state g new) → Reason old new why) → IsUnopened g Made Reason old (record { why = why; conn = new })
    looked_refused why reason = record {
      outside = looks.outside rest.outside;
      was_clean = looks.was_clean;
      stays = λ clean. record { was_open = looks.was_open clean; now_is = looks.now_is clean; committed_is = looks.committed_is clean };
      limit = λ _. looks.survives.limit;
      reason = reason;
      crash = looked_crash;
    }

  -- an index is made of a database of a kind, and comes to what is made of it here
  module _ {A : Type 0} {IsKind : Database → Type 0} {change : Tables → Tables} {rows : List Row → List Row} {asks : List Ask}
      (kind : HasCleanDisk (state g old) → IsTrue (state g old).is_open → IsKind (state g old).now)
      (tells : HasCleanDisk (state g old) → IsTrue (state g old).is_open
      → version_among (rows (meta_in (state g old).now.trees)) ≡ Some number)
      (comes : IsWorking (state g old) → (db : Trees) → IsKind (state g old).now → AreCurrent number db
      → tables_in db ≡ change (tables_in (state g old).now.trees) → meta_in db ≡ rows (meta_in (state g old).now.trees)
      → Made (state g old).now db) where
    made_crash : (result : Result A Error) → MakesIndex IsKind change rows asks (on_store g old new) result
        → CrashLeavesOrMakes Made (state g old) (state g new)
    made_crash result it working clean db may =
        let fit = kind working.clean working.is_open in
        elim ((it.crash working.is_open fit).crash clean db may) [
          | inl before ↦ inl before
          | inr made ↦ inr (comes working db fit
              (record { index = made.2; version = ap version_among made.1 ∙ tells working.clean working.is_open }) made.0 made.1)
        ]

    made_limit : (result : Result A Error) → MakesIndex IsKind change rows asks (on_store g old new) result → IsWorking (state g new)
        → KeepsLimit (state g old) (state g new)
    made_limit result it working =
        let was = it.was_open working.clean working.is_open in
        (it.crash was (kind (it.was_clean working.clean) was)).limit

    pub made_opened : (done : A) → MakesIndex IsKind change rows asks (on_store g old new) (Ok done) → IsSettled (state g new)
        → AreOpened number g Made old (record { conn = new; failures = 0; stores = 0 })
    made_opened done it settled = opened_by settled it.was_clean it.was_open honest (made_crash (Ok done) it) (made_limit (Ok done) it)
        records
      where
        records : AreRecords (state g old).now → IsWorking (state g new) → AreRecords (state g new).now
        records were working =
            let was = it.was_open working.clean working.is_open in
            (it.made working.clean was (kind (it.was_clean working.clean) was)).records were

        honest : IsWorking (state g old) → HasCleanDisk (state g new) → IsHonest number (state g new)
        honest working clean =
            let made = it.made clean working.is_open (kind working.clean working.is_open) in
            record {
              clean = clean;
              is_open = made.is_open;
              index = made.index;
              committed = sym made.committed;
              version = ap version_among made.meta ∙ tells working.clean working.is_open;
            }

    pub made_refused : {Reason : Held S → Held S → OpenFault → Type 0} (e : Error)
        → MakesIndex {A = A} IsKind change rows asks (on_store g old new) (Err e) → IsAtRest g old
        → (why : OpenFault) → why ≡ open_fault_by (fault_by e) → (StoreForRefusal g asks old new why → Reason old new why)
        → IsUnopened g Made Reason old (record { why = why; conn = new })
    made_refused e it rest why is weaker =
        let fit = λ (clean : HasCleanDisk (state g new)) (o : IsTrue (state g old).is_open). kind (it.was_clean clean) o in
        record {
          outside = it.outside;
          was_clean = it.was_clean;
          stays = λ clean. record {
            was_open = it.was_open clean;
            now_is = λ o. let was = it.was_open clean o in
                (it.unchanged clean o (fit clean was)).0 ∙ sym (rest.settled (it.was_clean clean) was);
            committed_is = λ o. (it.unchanged clean o (fit clean (it.was_open clean o))).1;
          };
          limit = made_limit (Err e) it;
          reason = λ clean. weaker (λ store. it.reason clean (fit clean) (store_by (fault_by e) (sym is ∙ store)));
          crash = made_crash (Err e) it;
        }

-- the connection is then one to an index
pub made_index : {S A : Type 0} (g : Ghosts S) {IsKind : Database → Type 0} {change : Tables → Tables} {rows : List Row
    → List Row} {asks : List Ask} (old new : Held S)
    → (HasCleanDisk (state g old) → IsTrue (state g old).is_open → IsKind (state g old).now)
    → (done : A) → MakesIndex IsKind change rows asks (on_store g old new) (Ok done) → IsIndexConnection g new
made_index g old new kind done it =
    let was = λ (clean : HasCleanDisk (state g new)) (o : IsTrue (state g new).is_open). it.was_open clean o in
    let made = λ (clean : HasCleanDisk (state g new)) (o : IsTrue (state g new).is_open). it.made clean (was clean o)
    (kind (it.was_clean clean) (was clean o)) in
    record {
      outside = it.outside;
      index = λ clean o. (made clean o).index;
      committed = λ clean o. sym (made clean o).committed;
    }

-- and its version is the one that is made
pub made_version : {S A : Type 0} (number : ℕ) (g : Ghosts S) {IsKind : Database → Type 0} {change : Tables → Tables} {rows : List Row
    → List Row} {asks : List Ask} (old new : Held S)
    → (HasCleanDisk (state g old) → IsTrue (state g old).is_open → IsKind (state g old).now)
    → (HasCleanDisk (state g old) → IsTrue (state g old).is_open → version_among (rows (meta_in (state g old).now.trees)) ≡ Some number)
    → (done : A) → MakesIndex IsKind change rows asks (on_store g old new) (Ok done) → HasVersion number g new
made_version number g old new kind tells done it clean o =
    let was = it.was_open clean o in
    ap version_among (it.made clean was (kind (it.was_clean clean) was)).meta ∙ tells (it.was_clean clean) was

-- a connection that is refused at once is as it was
pub refused_at_once : {S : Type 0} (g : Ghosts S) {Made : Database → Trees → Type 0} {Reason : Held S → Held S → OpenFault
    → Type 0} (held : Held S) (why : OpenFault) → held.in_transaction ≡ false → (HasCleanDisk (state g held) → Reason held held why)
    → IsUnopened g Made Reason held (record { why = why; conn = held })
refused_at_once g held why outside reason = record {
  outside = outside;
  was_clean = λ clean. clean;
  stays = λ _. record { was_open = λ o. o; now_is = λ _. refl; committed_is = λ _. refl };
  limit = λ _. refl;
  reason = reason;
  crash = λ _ _ db may. inl may;
}

-- a reason of one kind is one of another
pub unopened_by : {S : Type 0} (g : Ghosts S) {Made : Database → Trees → Type 0} {Reason Other : Held S → Held S → OpenFault
    → Type 0} (held : Held S) (refused : Unopened S)
    → (Reason held refused.conn refused.why → Other held refused.conn refused.why) → IsUnopened g Made Reason held refused
    → IsUnopened g Made Other held refused
unopened_by g held refused weaker it = record {
  outside = it.outside;
  was_clean = it.was_clean;
  stays = it.stays;
  limit = it.limit;
  reason = λ clean. weaker (it.reason clean);
  crash = it.crash;
}

-- what is made of an empty database, with another name for its version
pub named_version : {S A : Type 0} {step : ConnectionStep S} {result : Result A Error} {told number : ℕ} (user : Bytes)
    (account : UserRecord) → told ≡ number → MakesNewIndex told user account step result → MakesNewIndex number user account step result
named_version {S} {A} {step} {result} user account same made = subst (λ version. MakesNewIndex version user account step result) same made
