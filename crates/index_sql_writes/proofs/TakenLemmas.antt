-- Steps of one statement.
use Rattle.index_sql_writes.proofs.Words.{◌≡◌, ◌∙◌, inl, inr, ℕ, List, [], ◌∷◌, ◌++◌, length, Ok, Err, Result, Some, refl, subst, sym}
use Rattle.index_sql_writes.proofs.Words.{IsTrue, arith, false, IsErrAnd, cases_Bool, Row, Ghosts, Error, Held, state, State, Executes}
use Rattle.index_sql_writes.proofs.Words.{ExecutesInside, HasCleanDisk, Survives, survives_then, Bytes, Project, Tables, IsIndex, Changes}
use Rattle.index_sql_writes.proofs.Words.{same_meta, on_store, index_schema, put_name_text, Ask, CanAsk, SqlAnswersEachAsk, Statement}
use Rattle.index_sql_writes.proofs.Words.{WithNumbers, IsInTransaction, IsUncommitted, MakesInTransaction, ManyStepsMakeChange}
use Rattle.index_sql_writes.proofs.Words.{RunsStatement, StepMakesChange, project_numbers, held_numbers, name_cells, name_of, puts_name}
use Rattle.std.specs.Borrow.{MutBor}
use Rattle.sqlite.specs.declared.transaction.Transaction.{Transaction}
use Rattle.sqlite.specs.declared.error.Error.TheVariants.{IntegralValueOutOfRange}
use Rattle.index_rules.specs.declared.records.NameRecord.TheVariants as known
use Rattle.index_sql_writes.specs.Asks.{HasTooMuch}
use Rattle.index_sql_writes.specs.Statements.{hold_name_ask}
use Rattle.index_sql_writes.specs.declared.statements.NameNumbers.{NameNumbers}
use Rattle.index_sql_writes.proofs.PutRecords.{held_again}
use Rattle.index_sql_writes.proofs.AskLemmas.{IsWrite, fits, step_goes}
use Rattle.index_sql_writes.proofs.GoingLemmas.{all_stop, all_then, fault_since, goes_alone}
use Rattle.index_sql_writes.proofs.InTurn.{keeps_then}
use Rattle.index_sql_writes.proofs.StepLemmas.{keeps_by, makes}

-- at the exit of a `?`
pub at_exit : {A : Type 0} (r : Result A Error) (e : Error) (Q : Result A Error → Type 0) → IsErrAnd r (λ it. it ≡ e) → Q (Err e) → Q r
at_exit (Ok a) e Q is q = absurd is
at_exit (Err it) e Q is q = subst (λ x. Q (Err x)) (sym is) q

module _ {S : Type 0} (g : Ghosts S) where
  pub uncommitted_none : (it : MutBor (Held S)) → IsUncommitted g it it
  uncommitted_none it = record {
    same_reference = refl;
    kept = λ clean. record { was_open = λ o. o; committed = λ _. refl };
    survives = record {
      clean = omega arith;
      shield = λ x. x;
      counts = omega arith;
      limit = refl;
      closes = λ clean o. inl o;
      crash = λ clean db may. inl may;
    };
  }

  pub uncommitted_then : (first mid last : MutBor (Held S)) → IsUncommitted g first mid → IsUncommitted g mid last
      → IsUncommitted g first last
  uncommitted_then first mid last before did = record {
    same_reference = did.same_reference ∙ before.same_reference;
    kept = λ clean. keeps_then (state g first.now) (state g mid.now) (state g last.now) (before.kept (omega (arith, did.survives.clean)))
        (did.kept clean);
    survives = survives_then (state g first.now) (state g mid.now) (state g last.now) _ _ _ (λ _ db none. none) (λ _ db none. none)
        before.survives did.survives;
  }

  -- the answer of a statement without its count
  abbrev pub told : Result ℕ Error → Result (Unit {0}) Error
  told (Ok count) = Ok tt
  told (Err e) = Err e

  pub runs_statement : (sql : List ℕ) (params : Row) (old new : Transaction S) (r : Result ℕ Error) (fault : Error)
      → new.conn.ghost_name ≡ old.conn.ghost_name
      → (old.conn.now.in_transaction ≡ false → (r ≡ Err fault) × (new.conn.now ≡ old.conn.now))
      → (HasCleanDisk (state g new.conn.now) → IsTrue old.conn.now.in_transaction
      → ExecutesInside 0 sql params (state g old.conn.now) (state g new.conn.now) r)
      → Survives (state g old.conn.now) (state g new.conn.now) (λ _. ⊥) → RunsStatement sql params (on_store g old new) (told r)
  runs_statement sql params old new r fault same ended runs survives = by_result r ended runs
    where
      by_result : (r : Result ℕ Error) → (old.conn.now.in_transaction ≡ false → (r ≡ Err fault) × (new.conn.now ≡ old.conn.now))
          → (HasCleanDisk (state g new.conn.now) → IsTrue old.conn.now.in_transaction
          → ExecutesInside 0 sql params (state g old.conn.now) (state g new.conn.now) r)
          → RunsStatement sql params (on_store g old new) (told r)
      by_result (Ok count) ended runs = record {
        uncommitted = record {
          same_reference = same;
          kept = λ clean. keeps_by g old.conn.now new.conn.now sql params (Ok count) (λ out. (ended out).1) (runs clean);
          survives = survives;
        };
        opened = λ clean. elim (cases_Bool old.conn.now.in_transaction)
            [ inl within ↦ (runs clean within).1.was_open | inr without ↦ absurd (let e = (ended without).0 in cc) ];
        ran = λ clean within. (count, runs clean within);
      }
      by_result (Err e) ended runs = record {
        uncommitted = record {
          same_reference = same;
          kept = λ clean. keeps_by g old.conn.now new.conn.now sql params (Err e) (λ out. (ended out).1) (runs clean);
          survives = survives;
        };
        opened = λ clean. tt;
        ran = λ clean within. runs clean within;
      }

  -- a statement that changes an index so is a step of it; `cells` are its parameters
  pub step_of : (sql : List ℕ) (cells params : Row) (change : Tables → Tables) (old new : Transaction S) (r : Result (Unit {0}) Error)
      → IsWrite index_schema sql (length cells)
      → ((count : ℕ) → IsIndex (state g old.conn.now).now → Executes sql cells (state g old.conn.now) (state g new.conn.now) (Ok count)
      → Changes change (state g old.conn.now).now (state g new.conn.now).now)
      → params ≡ cells → RunsStatement sql params (on_store g old new) r
      → StepMakesChange change (Statement sql cells) (on_store g old new) r
  step_of sql cells params change old new (Ok done) write changes given run = record {
    uncommitted = run.uncommitted;
    made = λ clean ready.
        let ran = run.ran clean ready.inside in
        makes sql cells change same_meta params (state g old.conn.now) (state g new.conn.now) ran.0 (changes ran.0) ready ran.1 given;
    opened = run.opened;
    asked = λ clean can.
        let ran = run.ran clean can.ready.inside in
        step_goes g sql cells params write old.conn.now new.conn.now (Ok ran.0) can.ready can.unlimited (λ _. ran.1) given;
  }
  step_of sql cells params change old new (Err e) write changes given run = record {
    uncommitted = run.uncommitted;
    made = λ clean. tt;
    opened = λ clean. tt;
    asked = λ clean can. step_goes g sql cells params write old.conn.now new.conn.now (Err e) can.ready can.unlimited (run.ran clean) given;
  }

  module _ {A : Type 0} (change : Tables → Tables) (numbers : List ℕ) where
    -- a step with numbers is one of its statement, if these fit
    pub fitting : (sql : List ℕ) (given cells : Row) (old new : Transaction S) (r : Result A Error) → given ≡ cells
        → StepMakesChange change (Statement sql given) (on_store g old new) r
        → StepMakesChange change (WithNumbers numbers (Statement sql cells)) (on_store g old new) r
    fitting sql given cells old new r same step = record {
      uncommitted = step.uncommitted;
      made = step.made;
      opened = step.opened;
      asked = λ clean can. fits numbers sql given cells (state g old.conn.now) (state g new.conn.now) r same (step.asked clean can);
    }

    -- and is refused before it, if one does not
    pub too_much : (ask : Ask) (it : Transaction S) (r : Result A Error) (e : Error) → IsErrAnd r (λ it. it ≡ e) → HasTooMuch numbers
        → StepMakesChange change (WithNumbers numbers ask) (on_store g it it) r
    too_much ask it r e failed much = at_exit r e (StepMakesChange change (WithNumbers numbers ask) (on_store g it it)) failed (record {
      uncommitted = uncommitted_none it.conn;
      made = λ clean. tt;
      opened = λ clean. tt;
      asked = λ clean can store. inr (Some (IntegralValueOutOfRange 0), inl (much, refl));
    })

-- a step that puts the columns that a call has holds the name with its project
pub held_step : {S A : Type 0} (g : Ghosts S) (name : Bytes) (project : Project) (shown : Bytes) (numbers : NameNumbers)
    → shown ≡ project.shown → numbers ≡ held_numbers project → (old new : Transaction S) (r : Result A Error)
    → StepMakesChange (puts_name name (name_of shown numbers)) (Statement put_name_text (name_cells name shown numbers))
    (on_store g old new) r
    → StepMakesChange (puts_name name (known.Held project)) (hold_name_ask name project) (on_store g old new) r
held_step g name project shown numbers s n old new r step =
    let cells = name_cells name project.shown (held_numbers project) in
    let put = rw (s, n) at step in
    fitting g (puts_name name (known.Held project)) (project_numbers project) put_name_text cells cells old new r refl
    (subst (λ it. StepMakesChange (puts_name name it) (Statement put_name_text cells) (on_store g old new) r) (held_again project) put)

-- ---- steps in turn

-- a step is steps
pub step_alone : {S A : Type 0} (g : Ghosts S) (change : Tables → Tables) (ask : Ask) (old new : Transaction S) (r : Result A Error)
    → StepMakesChange change ask (on_store g old new) r
    → ManyStepsMakeChange IsInTransaction (MakesInTransaction change same_meta) CanAsk (SqlAnswersEachAsk (ask ∷ [])) (on_store g old new) r
step_alone g change ask old new r step = record {
  uncommitted = step.uncommitted;
  made = step.made;
  asked = λ clean can. goes_alone ask (state g old.conn.now) (state g new.conn.now) r (step.asked clean can);
}

module _ {S A B : Type 0} (g : Ghosts S) {Begins CanAsk : State → Type 0} {One : State → State
    → Type 0} (xs : List Ask) {first mid : Transaction S} where
  -- if some fail, so do all
  pub exits : (zs : List Ask) (Both : State → State → Type 0) (r : Result B Error) (e : Error) → IsErrAnd r (λ it. it ≡ e)
      → ManyStepsMakeChange {A = A} Begins One CanAsk (SqlAnswersEachAsk xs) (on_store g first mid) (Err e)
      → ManyStepsMakeChange Begins Both CanAsk (SqlAnswersEachAsk (xs ++ zs)) (on_store g first mid) r
  exits zs Both r e failed some = at_exit r e (ManyStepsMakeChange Begins Both CanAsk (SqlAnswersEachAsk (xs ++ zs)) (on_store g first mid))
      failed (record {
        uncommitted = some.uncommitted;
        made = λ clean. tt;
        asked = λ clean can store. elim (some.asked clean can store) [
          | inl fault ↦ inl fault
          | inr refuses ↦ inr (refuses.0, all_stop xs zs (state g first.conn.now).now refuses.0 refuses.1)
        ];
      })

  module _ {Goes AsksOn : State → Type 0} {Two : State → State → Type 0} (Both : State → State
      → Type 0) (ys : List Ask) {last : Transaction S} {a : A} (begins : CanAsk (state g first.conn.now) → Begins (state g first.conn.now))
      (goes : One (state g first.conn.now) (state g mid.conn.now) → Goes (state g mid.conn.now)) (asks_on : CanAsk (state g first.conn.now)
      → One (state g first.conn.now) (state g mid.conn.now) → (state g mid.conn.now).step_limit ≡ (state g first.conn.now).step_limit
      → AsksOn (state g mid.conn.now))
      (both : One (state g first.conn.now) (state g mid.conn.now) → Two (state g mid.conn.now) (state g last.conn.now)
      → Both (state g first.conn.now) (state g last.conn.now))
      (one : ManyStepsMakeChange Begins One CanAsk (SqlAnswersEachAsk xs) (on_store g first mid) (Ok a)) where
    -- steps, and those after them
    pub steps_then : (r : Result B Error) → ManyStepsMakeChange Goes Two AsksOn (SqlAnswersEachAsk ys) (on_store g mid last) r
        → ManyStepsMakeChange Begins Both CanAsk (SqlAnswersEachAsk (xs ++ ys)) (on_store g first last) r
    steps_then (Ok b) two = record {
      uncommitted = uncommitted_then g first.conn mid.conn last.conn one.uncommitted two.uncommitted;
      made = λ clean can.
          let did = one.made (omega (arith, two.uncommitted.survives.clean)) can in
          both did (two.made clean (goes did));
      asked = λ clean can.
          let before : HasCleanDisk (state g mid.conn.now) = omega (arith, two.uncommitted.survives.clean) in
          let on = asks_on can (one.made before (begins can)) one.uncommitted.survives.limit in
          all_then xs ys (state g first.conn.now).now (state g mid.conn.now).now (Ok (state g last.conn.now).now) (one.asked before can)
          (two.asked clean on);
    }
    steps_then (Err e) two = record {
      uncommitted = uncommitted_then g first.conn mid.conn last.conn one.uncommitted two.uncommitted;
      made = λ clean. tt;
      asked = λ clean can store.
          let before : HasCleanDisk (state g mid.conn.now) = omega (arith, two.uncommitted.survives.clean) in
          let on = asks_on can (one.made before (begins can)) one.uncommitted.survives.limit in
          elim (two.asked clean on store) [
            | inl fault ↦ inl (fault_since (state g first.conn.now) (state g mid.conn.now) (state g last.conn.now)
                one.uncommitted.survives.counts fault)
            | inr refuses ↦ inr (
              refuses.0,
              all_then xs ys (state g first.conn.now).now (state g mid.conn.now).now (Err refuses.0)
                  (one.asked before can) refuses.1,
            )
          ];
    }
