-- What one look-up finds, and several one after another.
use Rattle.index_sql_reads.proofs.Words.{◌≡◌, ℕ, true, false, List, Some, None, option_map, is_some, Result, Ok, Err, IfOk, IfErr, OnOk}
use Rattle.index_sql_reads.proofs.Words.{refl, sym, ap, subst, ◌∙◌, AllByRecursion, Ghosts, Row, Database, Held, state, State, HasCleanDisk}
use Rattle.index_sql_reads.proofs.Words.{Shown, Fault, Tables, index_schema, tables_in, AreRecords, IsIndex, QueriesOnly, HasReason, IsSure}
use Rattle.index_sql_reads.proofs.Words.{reason_after, known_records}
use Rattle.std.proofs.Common.{Option, IsOk}
use Rattle.std.proofs.Common.{IsErrAnd, IsOkUnless}
use Rattle.index_rules.specs.declared.answer.Fault.TheVariants.{OutOfMemory, Store}
use Rattle.index_sql_schema.specs.RecordRows.{AreRecordsOf}
use Rattle.index_sql_schema.proofs.LookLemmas.{looks_failed, looks_then}
use Rattle.index_sql_reads.specs.ConnectionTables.{tables_of}
use Rattle.index_sql_reads.specs.Finds.{FindsInTables}

-- ---- results

-- an answer, or memory that ran out, is not a fault of the store
pub never_store : {A : Type 0} (r : Result A Fault) (P : Type 0) → IsOkUnless r OutOfMemory → IfErr r (λ fault. fault ≡ Store → P)
never_store (Ok a) P h = tt
never_store (Err OutOfMemory) P h = λ is. absurd (let e = is in cc)
never_store (Err Store) P h = λ is. absurd (let e = h in cc)

-- memory that ran out is not a fault of the store either
pub never_memory : (why : Fault) (P : Type 0) → why ≡ OutOfMemory → why ≡ Store → P
never_memory why P is store = absurd (let e = sym is ∙ store in cc)

-- what is answered at all is no fault
pub never_fails : {A : Type 0} (r : Result A Fault) (P : Type 0) → IsOk r → IfErr r (λ fault. fault ≡ Store → P)
never_fails (Ok a) P h = tt
never_fails (Err why) P h = absurd (let e = h in cc)

-- at the exit of a `?`: the reason is that of the call
pub at_exit : {A : Type 0} (r : Result A Fault) (why : Fault) (P : Type 0) → IsErrAnd r (λ fault. fault ≡ why) → (why ≡ Store → P)
    → IfErr r (λ fault. fault ≡ Store → P)
at_exit (Ok a) why P is reason = tt
at_exit (Err fault) why P is reason = λ store. reason (sym is ∙ store)

-- there is a value if there is a row
pub is_some-map : {A B : Type 0} (f : A → B) (o : Option A) → is_some (option_map f o) ≡ is_some o
is_some-map f None = refl
is_some-map f (Some a) = refl

-- what holds anyway holds of an answer
pub on_ok : {A E P : Type 0} (r : Result A E) → P → OnOk r P
on_ok (Ok a) it = it
on_ok (Err e) it = tt

-- what is answered is so of something weaker
pub ok_weaker : {A E : Type 0} (r : Result A E) (P Q : A → Type 0) → ((a : A) → P a → Q a) → IfOk r P → IfOk r Q
ok_weaker (Ok a) P Q f h = f a h
ok_weaker (Err e) P Q f h = h

module _ {S : Type 0} (g : Ghosts S) where
  -- what is found after looks is so of the tables before them
  pub seen_before : (a b : Held S) (P : Tables → Type 0) → QueriesOnly g a b true → HasCleanDisk (state g b) → P (tables_of g b)
      → P (tables_of g a)
  seen_before a b P it clean = subst P (ap (λ (db : Database). tables_in db.trees) (it.same refl clean))

  -- ---- several

  -- both are found
  pub finds_then : {A B : Type 0} {a b c : Held S} {x : A} {y : B} {Has : Tables → A → Type 0} {Had : Tables → B → Type 0}
      → FindsInTables g a b (Ok x) Has → FindsInTables g b c (Ok y) Had
      → FindsInTables {A = A × B} g a c (Ok (x, y)) (λ T it. Has T it.0 × Had T it.1)
  finds_then {a = a} {b = b} {c = c} {y = y} {Had = Had} first second = record {
    found = λ clean. (
      first.found (second.looks.was_clean clean),
      seen_before a b (λ T. Had T y) first.looks (second.looks.was_clean clean) (second.found clean),
    );
    looks = looks_then g a b c true first.looks second.looks;
    reason = λ clean records. tt;
  }

  -- what was found is another value
  pub finds_as : {A B : Type 0} {a b : Held S} {x : A} {y : B} {Has : Tables → A → Type 0} (As : Tables → B → Type 0)
      → FindsInTables g a b (Ok x) Has → ((T : Tables) → Has T x → As T y) → FindsInTables g a b (Ok y) As
  finds_as As it so = record { found = λ clean. so _ (it.found clean); looks = it.looks; reason = λ clean records. tt }

  -- or as something weaker
  pub finds_weaker : {A : Type 0} {a b : Held S} {r : Result A Fault} {Has As : Tables → A → Type 0} → FindsInTables g a b r Has
      → ((T : Tables) (x : A) → Has T x → As T x) → FindsInTables g a b r As
  finds_weaker {a = a} {r = r} {Has = Has} {As = As} it so =
      record {
        found = λ clean. ok_weaker r (Has (tables_of g a)) (As (tables_of g a)) (so _) (it.found clean);
        looks = it.looks;
        reason = it.reason;
      }

  -- at the exit of a `?`, behind what was found
  pub fails_then : {A B C : Type 0} {a b c : Held S} {x : A} {why : Fault} {r : Result C Fault} {Has : Tables → A → Type 0} {Had : Tables
      → B → Type 0} {As : Tables → C → Type 0}
      → FindsInTables g a b (Ok x) Has → FindsInTables g b c (Err why) Had → IsErrAnd r (λ fault. fault ≡ why) → FindsInTables g a c r As
  fails_then {r = Ok z} first second is = absurd is
  fails_then {a = a} {b = b} {c = c} {why = why} {r = Err fault} first second is = record {
    found = λ clean. tt;
    looks = looks_then g a b c false first.looks second.looks;
    reason = λ clean records store. reason_after g a b c (why ≡ Store) first.looks second.looks.was_clean second.reason clean records
        (sym is ∙ store);
  }

  -- ---- one

  module _ (sql : List ℕ) (cells params : Row) (same : params ≡ cells) where
    -- a query failed
    pub fails_query : {A : Type 0} {old new : Held S} {why : Fault} {r : Result A Fault} {Has : Tables → A → Type 0} → IsSure sql cells
        → QueriesOnly g old new false
        → (IsSure sql params → HasCleanDisk (state g new) → why ≡ Store → HasReason (state g old) (state g new))
        → IsErrAnd r (λ fault. fault ≡ why) → FindsInTables g old new r Has
    fails_query {r = Ok x} sure looks reason is = absurd is
    fails_query {r = Err fault} sure looks reason is = record {
      found = λ clean. tt;
      looks = looks;
      reason = λ clean records store. reason (subst (IsSure sql) (sym same) sure) clean (sym is ∙ store);
    }

    -- its rows are read as what the tables have
    module _ {A B : Type 0} (value : A → B) (read : List Row → B) (Has : Tables → B → Type 0) (selects : (old new : State) (rows : List Row)
        → IsIndex old.now → Shown sql cells old new rows → Has (tables_in old.now.trees) (read rows))
        (old new : Held S) (rows slice : List Row) (is : slice ≡ rows) (looks : QueriesOnly g old new true)
        (index : HasCleanDisk (state g new) → IsIndex (state g old).now)
        (shown : HasCleanDisk (state g new) → Shown sql params (state g old) (state g new) rows) where
      as_shown : HasCleanDisk (state g new) → Shown sql cells (state g old) (state g new) rows
      as_shown clean = subst (λ ps. Shown sql ps (state g old) (state g new) rows) same (shown clean)

      reads : (x : A) → value x ≡ read slice → HasCleanDisk (state g new) → Has (tables_of g old) (value x)
      reads x told clean = subst (Has (tables_of g old)) (sym (told ∙ ap read is))
          (selects (state g old) (state g new) rows (index clean) (as_shown clean))

      all : (IsRow : Row → Type 0) → ((old new : State) (rows : List Row) → IsIndex old.now → Shown sql cells old new rows
          → AreRecordsOf index_schema.tables old.now.trees → AllByRecursion IsRow rows)
          → HasCleanDisk (state g new) → AreRecords (state g old).now → AllByRecursion IsRow slice
      all IsRow are clean records =
          subst (AllByRecursion IsRow) (sym is)
          (are (state g old) (state g new) rows (index clean) (as_shown clean) (known_records (state g old).now (index clean) records))

      pub finds_told : (x : A) → value x ≡ read slice → FindsInTables g old new (Ok x) (λ T it. Has T (value it))
      finds_told x told = record { found = reads x told; looks = looks; reason = λ clean records. tt }

      -- or not, only because memory ran out if all are those of records
      pub finds_read : (r : Result A Fault) (IsRow : Row → Type 0)
          → ((old new : State) (rows : List Row) → IsIndex old.now → Shown sql cells old new rows
          → AreRecordsOf index_schema.tables old.now.trees → AllByRecursion IsRow rows)
          → IfOk r (λ it. value it ≡ read slice) → (AllByRecursion IsRow slice → IsOkUnless r OutOfMemory)
          → FindsInTables g old new r (λ T it. Has T (value it))
      finds_read r IsRow are told complete = record {
        found = λ clean. ok_weaker r (λ it. value it ≡ read slice) (λ it. Has (tables_of g old) (value it)) (λ it told. reads it told clean)
            told;
        looks = looks_failed g old new _ looks;
        reason = λ clean records. never_store r _ (complete (all IsRow are clean records));
      }

      -- if they are not all read, memory ran out
      pub fails_read : {C : Type 0} {why : Fault} {r : Result C Fault} {As : Tables → C → Type 0} (IsRow : Row → Type 0)
          → ((old new : State) (rows : List Row) → IsIndex old.now → Shown sql cells old new rows
          → AreRecordsOf index_schema.tables old.now.trees → AllByRecursion IsRow rows)
          → (AllByRecursion IsRow slice → why ≡ OutOfMemory) → IsErrAnd r (λ fault. fault ≡ why) → FindsInTables g old new r As
      fails_read {r = Ok x} IsRow are complete is = absurd is
      fails_read {why = why} {r = Err fault} IsRow are complete is = record {
        found = λ clean. tt;
        looks = looks_failed g old new false looks;
        reason = λ clean records store. never_memory why _ (complete (all IsRow are clean records)) (sym is ∙ store);
      }
