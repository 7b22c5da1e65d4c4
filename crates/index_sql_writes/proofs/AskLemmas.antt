-- How a statement inside a transaction goes, whatever its text is.
use Rattle.index_sql_writes.proofs.Words.{◌≡◌, ◌≤◌, ◌⊎◌, inl, inr, ℕ, false, List, [], length, Option, None, Some, Result, Ok, Err, refl}
use Rattle.index_sql_writes.proofs.Words.{sym, ap, subst, ◌∙◌, true≢false, IsTrue, MatchResult, MoreFaults, Row, Ghosts, Returning, Error}
use Rattle.index_sql_writes.proofs.Words.{timed, Database, Held, state, understood, Outcome, State, Executes, ExecutesInside, IsNotRun}
use Rattle.index_sql_writes.proofs.Words.{fault_by, index_schema, SqlAnswersAsk, SqlFailsForReason, Statement, WithNumbers, IsInTransaction}
use Rattle.std.proofs.Common.{append-nil}
use Rattle.std.proofs.Common.{subst₂}
use Rattle.std.specs.Prelude.{⊤}
use Rattle.sqlite_trees.specs.declared.error.StoreError.{StoreError}
use Rattle.sqlite_trees.specs.declared.error.StoreError.TheVariants.{OutOfMemory, Io, Corrupt, Full, Broken, Unstorable}
use Rattle.sqlite_schema.specs.declared.command.Command.{Command}
use Rattle.sqlite_schema.specs.declared.command.Command.TheVariants.{Insert, InsertOr, Update, Delete, CreateTable}
use Rattle.sqlite_schema.specs.declared.schema.Schema.{Schema}
use Rattle.sqlite_resolve.specs.declared.compiled.Compiled.{Compiled}
use Rattle.sqlite_resolve.specs.declared.error.CompileError.{CompileError}
use Rattle.sqlite.specs.Does.{Tally, Does}
use Rattle.sqlite.specs.Effect.{is_query}
use Rattle.sqlite.specs.State.{Escapes, EndsScope, ExecutesIn, Fails, HasCause, IsMisplaced}
use Rattle.sqlite.specs.State.{IsStatement, Runs, RunsCommand, Writes, is_pragma, mode_of, shows_rows, store_error, text_of}
use Rattle.index_rules.specs.declared.answer.Fault.TheVariants as fault
use Rattle.index_sql_writes.specs.Asks.{SqlAnswersStatement, each_statement}

-- a command that changes rows, or makes a table
abbrev pub IsWriting : Command → Type 0
IsWriting (Insert at from) = ⊤
IsWriting (InsertOr at how from clauses) = ⊤
IsWriting (Update at q) = ⊤
IsWriting (Delete at q) = ⊤
IsWriting CreateTable = ⊤
IsWriting _ = ⊥

-- one statement for so many parameters, which is such a command and shows nothing
abbrev pub WritesAs : List ℕ → ℕ → Result Compiled CompileError → Type 0
WritesAs sql count (Ok c) = (length sql ≤ c.tail) × (count ≡ length c.names) × (c.formats ≡ []) × (c.returning ≡ None) × IsWriting c.command
WritesAs sql count (Err e) = ⊥

-- the text is one
unfoldable pub IsWrite : Schema → List ℕ → ℕ → Type 0
IsWrite schema sql count = WritesAs sql count (understood schema sql)

no_query : (k : Command) → IsWriting k → is_query k ≡ false
no_query (Insert at from) w = refl
no_query (InsertOr at how from clauses) w = refl
no_query (Update at q) w = refl
no_query (Delete at q) w = refl
no_query CreateTable w = refl
no_query _ w = absurd w

no_pragma : (k : Command) → IsWriting k → is_pragma k ≡ false
no_pragma (Insert at from) w = refl
no_pragma (InsertOr at how from clauses) w = refl
no_pragma (Update at q) w = refl
no_pragma (Delete at q) w = refl
no_pragma CreateTable w = refl
no_pragma _ w = absurd w

hides_rows : (c : Compiled) → c.returning ≡ None → IsWriting c.command → shows_rows false c ≡ false
hides_rows c none w = rw (no_query c.command w, no_pragma c.command w, none) refl

no_place : (s : State) (k : Command) (e : Error) → IsWriting k → ¬ IsMisplaced s k e
no_place s k e w (inl (_, inl begin)) = subst IsWriting begin.0 w
no_place s k e w (inl (_, inr (inl commit, _))) = subst IsWriting commit w
no_place s k e w (inl (_, inr (inr rollback, _))) = subst IsWriting rollback w
no_place s k e w (inr (_, name, inl release, _)) = subst IsWriting release w
no_place s k e w (inr (_, name, inr back, _)) = subst IsWriting back w

stays_in : (s : State) (k : Command) → IsWriting k → ¬ Escapes 0 s k
stays_in s k w (inl (inl commit)) = subst IsWriting commit w
stays_in s k w (inl (inr rollback)) = subst IsWriting rollback w
stays_in s k w (inr (name, inl release, _)) = subst IsWriting release w
stays_in s k w (inr (name, inr back, _)) = subst IsWriting back w

writes_of : (old new : State) (returning : Option Returning) (k : Command) (text : List ℕ) (params : Row) (count : ℕ) → IsWriting k
    → Runs old new returning k text params count → Writes old new returning k text params count
writes_of old new returning (Insert at from) text params count w it = it
writes_of old new returning (InsertOr at how from clauses) text params count w it = it
writes_of old new returning (Update at q) text params count w it = it
writes_of old new returning (Delete at q) text params count w it = it
writes_of old new returning CreateTable text params count w it = it
writes_of old new returning _ text params count w it = absurd w

-- why the store fails
module _ (old new : State) (too_big : Type 0) (e : Error) (opened : IsTrue old.is_open) (store : fault_by e ≡ fault.Store) where
  pub by_cause : (cause : StoreError) → e ≡ store_error cause → HasCause old new too_big cause → MoreFaults old.faults new.faults ⊎ too_big
  by_cause OutOfMemory is it = absurd (let f = subst (λ x. fault_by x ≡ fault.Store) is store in cc)
  by_cause Io is it = inl it
  by_cause Corrupt is it = inl it
  by_cause Full is it = inl it
  by_cause Broken is it = absurd (true≢false (sym opened ∙ it))
  by_cause Unstorable is it = inr it

  pub caused : Fails old new too_big e → MoreFaults old.faults new.faults ⊎ too_big
  caused fails = by_cause fails.0 fails.1 fails.2

module _ (schema : Schema) (sql : List ℕ) (params : Row) (write : IsWrite schema sql (length params)) (old new : State)
    (has : old.now.schema ≡ schema) (opened : IsTrue old.is_open) (unlimited : old.step_limit ≡ None) where
  writes_as : (it : Result Compiled CompileError) → understood old.now.schema sql ≡ it → WritesAs sql (length params) it
  unfolding IsWrite
  writes_as it is = subst (WritesAs sql (length params)) (ap (λ s. understood s sql) (sym has) ∙ is) write

  plainly : (c : Compiled) (it : IsStatement old sql params c) (out : Outcome (Tally × Database))
      → Does old.step_limit (mode_of old) (timed params c.formats it.now) old.now (text_of sql c) c.returning c.command out
      → Does None each_statement params old.now (text_of sql c) c.returning c.command out
  plainly c it out does =
      let bare : timed params c.formats it.now ≡ params = rw ((writes_as (Ok c) it.is).2, append-nil params) refl in
      subst₂ (λ limit ps. Does limit each_statement ps old.now (text_of sql c) c.returning c.command out) unlimited bare does

  did : (count : ℕ) → Executes sql params old new (Ok count) → SqlAnswersStatement sql params old.now (Ok new.now)
  unfolding ExecutesIn
  did count h =
      let known = writes_as (Ok h.0) h.1.is in
      let ran : RunsCommand old new sql h.0 (timed params h.0.formats h.1.now) (Ok count) = rw (hides_rows h.0 known.3 known.4) at h.2 in
      let it = writes_of old new h.0.returning h.0.command (text_of sql h.0) (timed params h.0.formats h.1.now) count known.4 ran in
      (h.0, h.1.is, inr ((it.tally, new.now), plainly h.0 h.1 (Ok (it.tally, new.now)) it.changed, refl))

  module _ (e : Error) (store : fault_by e ≡ fault.Store) where
    abbrev Reason : Type 0
    Reason = MoreFaults old.faults new.faults ⊎ ((why : Option Error) × SqlAnswersStatement sql params old.now (Err why))

    refused : (c : Compiled) (it : IsStatement old sql params c) (why : Option Error)
        → Does old.step_limit (mode_of old) (timed params c.formats it.now) old.now (text_of sql c) c.returning c.command (Err why) → Reason
    refused c it why does = inr (why, (c, it.is, inl (why, plainly c it (Err why) does, refl)))

    of_run : (c : Compiled) (it : IsStatement old sql params c) → IsWriting c.command
        → RunsCommand old new sql c (timed params c.formats it.now) (Err e) → Reason
    of_run c it w (inl (inl misplaced, _)) = absurd (no_place old c.command e w misplaced)
    of_run c it w (inl (inr does, _)) = refused c it (Some e) does.1
    of_run c it w (inr fails) = elim (caused old new _ e opened store fails) [ inl more ↦ inl more | inr big ↦ refused c it None big ]

    failed : Executes sql params old new (Err e) → Reason
    unfolding ExecutesIn IsNotRun
    failed (inl (inl (inl none, _))) = absurd (writes_as (Err none.0) none.1)
    failed (inl (inl (inr (c, is, inl more), _))) = absurd (more.0 (writes_as (Ok c) is).0)
    failed (inl (inl (inr (c, is, inr (inl given)), _))) = absurd (given.0 (writes_as (Ok c) is).1)
    failed (inl (inl (inr (c, is, inr (inr clock)), _))) = absurd (clock.0 (writes_as (Ok c) is).2)
    failed (inl (inr fails)) = elim (caused old new ⊥ e opened store fails) [ inl more ↦ inl more | inr none ↦ absurd none ]
    failed (inr h) =
        let known = writes_as (Ok h.0) h.1.is in
        let ran : RunsCommand old new sql h.0 (timed params h.0.formats h.1.now) (Err e) = rw (hides_rows h.0 known.3 known.4) at h.2 in
        of_run h.0 h.1 known.4 ran

    inside : ExecutesInside 0 sql params old new (Err e) → Reason
    unfolding EndsScope
    inside (inl (ran, _)) = failed ran
    inside (inr ((c, it, escapes), _, _)) = absurd (stays_in old c.command (writes_as (Ok c) it.is).4 escapes)

  -- it makes what SQL answers, or fails by the disk, or as SQL refuses
  pub goes : (r : Result ℕ Error) → ExecutesInside 0 sql params old new r
      → MatchResult r (λ _. SqlAnswersStatement sql params old.now (Ok new.now))
      (SqlFailsForReason (SqlAnswersStatement sql params old.now) old new)
  goes (Ok count) ran = did count ran.0
  goes (Err e) ran = λ store. inside e store ran

-- so goes a step of one statement
pub step_goes : {S : Type 0} (g : Ghosts S) (sql : List ℕ) (cells params : Row) → IsWrite index_schema sql (length cells)
    → (old new : Held S) (r : Result ℕ Error) → IsInTransaction (state g old) → (state g old).step_limit ≡ None
    → (IsTrue (state g old).in_transaction → ExecutesInside 0 sql params (state g old) (state g new) r) → params ≡ cells
    → MatchResult r (λ _. SqlAnswersStatement sql cells (state g old).now (Ok (state g new).now))
    (SqlFailsForReason (SqlAnswersStatement sql cells (state g old).now) (state g old) (state g new))
step_goes g sql cells params write old new r ready unlimited runs given =
    goes index_schema sql cells write (state g old) (state g new) ready.index.schema ready.is_open unlimited r
    (subst (λ ps. ExecutesInside 0 sql ps (state g old) (state g new) r) given (runs ready.inside))

-- a step with numbers goes as its statement, if these fit
pub fits : {A : Type 0} (numbers : List ℕ) (sql : List ℕ) (given cells : Row) (old new : State) (r : Result A Error) → given ≡ cells
    → MatchResult r (λ _. SqlAnswersStatement sql given old.now (Ok new.now))
    (SqlFailsForReason (SqlAnswersStatement sql given old.now) old new)
    → MatchResult r (λ _. SqlAnswersAsk (WithNumbers numbers (Statement sql cells)) old.now (Ok new.now))
    (SqlFailsForReason (SqlAnswersAsk (WithNumbers numbers (Statement sql cells)) old.now) old new)
fits numbers sql given cells old new (Ok done) same it = inr (subst (λ ps. SqlAnswersStatement sql ps old.now (Ok new.now)) same it)
fits numbers sql given cells old new (Err e) same it =
    λ store. elim (it store) [
      | inl more ↦ inl more
      | inr refuses ↦ inr (
        refuses.0,
        inr (subst (λ ps. SqlAnswersStatement sql ps old.now (Err refuses.0)) same refuses.1),
      )
    ]
