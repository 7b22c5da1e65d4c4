-- What a look at the connection leaves of the books.
use Rattle.index_tables.proofs.Words.{◌≡◌, ◌⊎◌, ◌∙◌, inl, inr, ℕ, Bool, IsTrue, List, Result, Some, ap, is_ok, not, subst, sym, Ghosts}
use Rattle.index_tables.proofs.Words.{Database, Held, state, HasCleanDisk, next_count, QueriesOnly, Fault, Tables, CountsStoreFault}
use Rattle.index_tables.proofs.Words.{fails_by_store, ends_by_store, has_fault, on_store, IsIndex, meta_in, version_in, AreRecords}
use Rattle.index_tables.proofs.Words.{tables_in, HasVersion, IsHonest, BooksState, Leaves, LooksFor, SqlLooks, WalksBooks}
use Rattle.index_rules.specs.declared.rows.WalkEnd.{WalkEnd}
use Rattle.index_rules.specs.Walks.{TakerStep}
use Rattle.index_sql_reads.specs.Finds.{FindsInTables}
use Rattle.index_sql_reads.specs.WalkReasons.{HandsRows}
use Rattle.index_tables.specs.LooksUp.{BooksStep}

pub keeps : {S : Type 0} (number : ℕ) (g : Ghosts S) (old new : Held S) (did : Bool) → IsTrue did → QueriesOnly g old new did
    → IsHonest number (state g old) → HasCleanDisk (state g new) → IsHonest number (state g new)
keeps number g old new did right looks honest clean =
    let o = looks.lasts right clean honest.is_open in
    let same = looks.now_is clean o in
    record {
      clean = clean;
      is_open = o;
      index = subst IsIndex (sym same) honest.index;
      committed = same ∙ honest.committed ∙ sym (looks.committed_is clean o);
      version = subst (λ (d : Database). version_in d.trees ≡ Some number) (sym same) honest.version;
    }

-- a look keeps the version
pub version_kept : {S : Type 0} (number : ℕ) (g : Ghosts S) (old new : Held S) (did : Bool) → HasVersion number g old
    → QueriesOnly g old new did → HasVersion number g new
version_kept number g old new did kept looks clean o =
    subst (λ (d : Database). version_in d.trees ≡ Some number) (sym (looks.now_is clean o))
    (kept (looks.was_clean clean) (looks.was_open clean o))

looks_back : {S : Type 0} (number : ℕ) (g : Ghosts S) (old new : Held S) (did : Bool) → QueriesOnly g old new did
    → IsHonest number (state g new) → IsHonest number (state g old)
looks_back number g old new did looks honest =
    let same = looks.now_is honest.clean honest.is_open in
    record {
      clean = looks.was_clean honest.clean;
      is_open = looks.was_open honest.clean honest.is_open;
      index = subst IsIndex same honest.index;
      committed = sym same ∙ honest.committed ∙ looks.committed_is honest.clean honest.is_open;
      version = subst (λ (d : Database). version_in d.trees ≡ Some number) same honest.version;
    }

looks_leave : {S : Type 0} (number : ℕ) (g : Ghosts S) (old new : Held S) (did : Bool) → QueriesOnly g old new did → (T : Tables)
    → Leaves number (state g new) T → Leaves number (state g old) T
looks_leave number g old new did looks T (clean, (db, may, is)) =
    (looks.was_clean clean, (db, before (looks.survives.crash clean db may), is))
  where
    before : (state g old).may_leave db ⊎ ⊥ → (state g old).may_leave db
    before (inl may) = may
    before (inr none) = absurd none

-- so a look at the connection, counted, is a look at the books
pub looks_up : {S : Type 0} (number : ℕ) (g : Ghosts S) (old new : BooksState S) (did is_store_fault : Bool)
    → QueriesOnly g old.conn new.conn did → new.failures ≡ next_count old.failures did
    → CountsStoreFault old.stores new.stores is_store_fault → SqlLooks number g old new did is_store_fault
looks_up number g old new did is_store_fault looks counted stores = record {
  looks = record {
    call = record {
      honest = looks_back number g old.conn new.conn _ looks;
      clean = looks.was_clean;
      failures = counted;
      stores = stores;
    };
    unchanged = λ honest. ap (λ (d : Database). tables_in d.trees) (looks.now_is honest.clean honest.is_open);
    lasts = λ right. keeps number g old.conn new.conn _ right looks;
    crash = looks_leave number g old.conn new.conn _ looks;
  };
  records = λ honest records. subst AreRecords (sym (looks.now_is honest.clean honest.is_open)) records;
  limit = λ _. looks.survives.limit;
  meta = record {
    stays = λ honest. ap (λ (d : Database). meta_in d.trees) (looks.now_is honest.clean honest.is_open);
    crash = λ working clean db may. elim (looks.survives.crash clean db may) [ inl before ↦ inl before | inr none ↦ absurd none ];
  };
}

pub finds : {S A : Type 0} (number : ℕ) (g : Ghosts S) (old new : BooksState S) (result : Result A Fault) (Has : Tables → A → Type 0)
    → FindsInTables g old.conn new.conn result Has
    → new.failures ≡ next_count old.failures (is_ok result) → CountsStoreFault old.stores new.stores (fails_by_store result)
    → LooksFor number g old new result Has
finds number g old new result Has it counted stores = record {
  found = λ honest. it.found honest.clean;
  looks = looks_up number g old new (is_ok result) (fails_by_store result) it.looks counted stores;
  reason = it.reason;
}

pub walks : {S K R A : Type 0} (rows_in : Tables → List R) (books : BooksStep S) (taker : TakerStep K R) (result : Result A WalkEnd)
    → HandsRows rows_in (on_store books.store books.old.conn books.new.conn) taker result
    → books.new.failures ≡ next_count books.old.failures (not (has_fault result))
    → CountsStoreFault books.old.stores books.new.stores (ends_by_store result) → WalksBooks rows_in books taker result
walks rows_in books taker result it counted stores = record {
  walked = λ honest. it.walked;
  given = it.given;
  looks = looks_up books.number books.store books.old books.new (not (has_fault result)) (ends_by_store result) it.looks counted stores;
  reason = it.reason;
}
