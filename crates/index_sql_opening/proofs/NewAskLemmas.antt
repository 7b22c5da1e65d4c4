-- The tables of a new index, made as SQL answers.
use Rattle.index_sql_opening.proofs.Words.{◌≡◌, ◌∙◌, ℕ, true, List, [], ◌∷◌, ◌++◌, None, Ok, Err, Result, IsTrue, length, refl, subst, Row}
use Rattle.index_sql_opening.proofs.Words.{Ghosts, Schema, Error, Held, state, State, ExecutesInside, same_meta, IsStage, no_tables}
use Rattle.index_sql_opening.proofs.Words.{MakesInTransaction, put_user_ask, IsWrite, makes_then, steps_then, Unlimited, table_asks}
use Rattle.index_sql_opening.proofs.Words.{text_ask, one_user}
use Rattle.sqlite.specs.declared.transaction.Transaction.{Transaction}
use Rattle.index_rules.specs.declared.records.UserRecord.{UserRecord}
use Rattle.index_rules.specs.Maps.{Bytes}
use Rattle.index_sql_schema.specs.OnStore.{on_store}
use Rattle.index_sql_writes.specs.Asks.{Ask, CanAsk, Statement}
use Rattle.index_sql_writes.specs.Steps.{RunsStatement, StepMakesChange}
use Rattle.index_sql_writes.specs.Writes.{puts_user}
use Rattle.index_sql_writes.proofs.AskLemmas.{goes}
use Rattle.index_sql_writes.proofs.GoingLemmas.{goes_alone}
use Rattle.index_sql_writes.proofs.TakenLemmas.{step_alone}
use Rattle.index_sql_opening.specs.NewAsks.{CreatesTables, StepsFrom}
use Rattle.index_sql_opening.specs.Created.{Advances, IsBlank}
use Rattle.index_sql_opening.proofs.FillLemmas.{made_all, no_rows}

-- a transaction on a blank database begins without a table
pub begins_blank : {S : Type 0} (g : Ghosts S) (old : Held S) → (IsTrue (state g old).is_open → IsBlank (state g old).now)
    → IsTrue (state g old).is_open → (state g old).step_limit ≡ None
    → Unlimited (IsStage 0) (state g (record old { in_transaction = true }))
begins_blank g old blank opened unlimited =
    let it = blank opened in
    (record { is_open = opened; inside = refl; schema = it.schema; sound = it.sound; empty = tt }, unlimited)

-- a statement on tables of such a schema is a step of what it asks; `cells` are its parameters
pub taken : {S : Type 0} (g : Ghosts S) (Begins : State → Type 0) (Does : State → State
    → Type 0) (schema : Schema) (sql : List ℕ) (cells params : Row) (old new : Transaction S) (r : Result (Unit {0}) Error)
    → IsWrite schema sql (length cells)
    → (Begins (state g old.conn.now) → IsTrue (state g old.conn.now).is_open × ((state g old.conn.now).in_transaction ≡ true)
    × ((state g old.conn.now).now.schema ≡ schema))
    → ((count : ℕ) → Begins (state g old.conn.now) → ExecutesInside 0 sql cells (state g old.conn.now) (state g new.conn.now) (Ok count)
    → Does (state g old.conn.now) (state g new.conn.now))
    → params ≡ cells → RunsStatement sql params (on_store g old new) r
    → StepsFrom Begins Does (Statement sql cells ∷ []) (on_store g old new) r
taken g Begins Does schema sql cells params old new r sure fit does given runs =
    by r (subst (λ ps. RunsStatement sql ps (on_store g old new) r) given runs)
  where
    by : (r : Result (Unit {0}) Error) → RunsStatement sql cells (on_store g old new) r
        → StepsFrom Begins Does (Statement sql cells ∷ []) (on_store g old new) r
    by (Ok done) run = record {
      uncommitted = run.uncommitted;
      made = λ clean begins.
          let ran = run.ran clean (fit begins).1 in
          does ran.0 begins ran.1;
      asked = λ clean can.
          let it = fit can.0 in
          let ran = run.ran clean it.1 in
          goes_alone (Statement sql cells) (state g old.conn.now) (state g new.conn.now) (Ok ran.0)
          (goes schema sql cells sure (state g old.conn.now) (state g new.conn.now) it.2 it.0 can.1 (Ok ran.0) ran.1);
    }
    by (Err e) run = record {
      uncommitted = run.uncommitted;
      made = λ clean. tt;
      asked = λ clean can.
          let it = fit can.0 in
          goes_alone {A = ℕ} (Statement sql cells) (state g old.conn.now) (state g new.conn.now) (Err e)
          (goes schema sql cells sure (state g old.conn.now) (state g new.conn.now) it.2 it.0 can.1 (Err e) (run.ran clean it.1));
    }

-- one without parameters is a step of its text
pub text_taken : {S : Type 0} (g : Ghosts S) (Begins : State → Type 0) (Does : State → State
    → Type 0) (schema : Schema) (sql : List ℕ) (old new : Transaction S) (r : Result (Unit {0}) Error) → IsWrite schema sql 0
    → (Begins (state g old.conn.now) → IsTrue (state g old.conn.now).is_open × ((state g old.conn.now).in_transaction ≡ true)
    × ((state g old.conn.now).now.schema ≡ schema))
    → ((count : ℕ) → Begins (state g old.conn.now) → ExecutesInside 0 sql [] (state g old.conn.now) (state g new.conn.now) (Ok count)
    → Does (state g old.conn.now) (state g new.conn.now))
    → RunsStatement sql [] (on_store g old new) r → StepsFrom Begins Does (text_ask sql ∷ []) (on_store g old new) r
text_taken g Begins Does schema sql old new r sure fit does run = taken g Begins Does schema sql [] [] old new r sure fit does refl run

-- more tables are made after these
pub more_tables : {S A B : Type 0} (g : Ghosts S) {n m k : ℕ} (xs ys : List Ask) {first mid last : Transaction S} {a : A}
    → StepsFrom (IsStage n) (Advances m) xs (on_store g first mid) (Ok a)
    → (r : Result B Error) → StepsFrom (IsStage m) (Advances k) ys (on_store g mid last) r
    → StepsFrom (IsStage n) (Advances k) (xs ++ ys) (on_store g first last) r
more_tables g {k = k} xs ys one = steps_then g xs (Advances k) ys (λ can. can.0) (λ did. did.0) (λ can did limit. (did.0, limit ∙ can.1))
    (λ did more. (more.0, more.1 ∙ did.1)) one

-- then rows can be put
can_put : (s : State) → IsStage 9 s → s.step_limit ≡ None → CanAsk s
can_put s made unlimited = record { ready = (made_all s s refl made).ready; records = no_rows s made; unlimited = unlimited }

-- and the first user
pub first_user : {S A B : Type 0} (g : Ghosts S) (user : Bytes) (account : UserRecord) {first mid last : Transaction S} {a : A}
    → CreatesTables 0 9 (on_store g first mid) (Ok a) → (r : Result B Error)
    → StepMakesChange (puts_user user account) (put_user_ask user account) (on_store g mid last) r
    → StepsFrom (IsStage 0) (MakesInTransaction (λ _. one_user user account) (λ _. [])) (table_asks 0 9 ++ (put_user_ask user account ∷ []))
    (on_store g first last) r
first_user g user account {first = first} {mid = mid} {last = last} made r put =
    let empty = λ (did : Advances 9 (state g first.conn.now) (state g mid.conn.now)). made_all (state g first.conn.now)
    (state g mid.conn.now) did.1 did.0 in
    steps_then g (table_asks 0 9) (MakesInTransaction (λ _. one_user user account) (λ _. [])) (put_user_ask user account ∷ [])
    (λ can. can.0) (λ did. (empty did).ready) (λ can did limit. can_put (state g mid.conn.now) did.0 (limit ∙ can.1))
    (λ did more. makes_then (λ _. no_tables) (puts_user user account) (λ _. []) same_meta _ _ _ (empty did) more) made r
    (step_alone g (puts_user user account) (put_user_ask user account) mid last r put)
