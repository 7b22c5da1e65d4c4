-- A query inside a transaction.
use Rattle.index_sql_writes.proofs.Words.{◌≡◌, IsSome, true≢false, ℕ, List, Option, Some, None, inl, inr, sym, ap, subst, ◌∙◌, ◌⊎◌, Row}
use Rattle.index_sql_writes.proofs.Words.{Returning, Error, timed, Database, understood, State, IsNotRun, KeepsCommit, Tables, index_schema}
use Rattle.index_sql_writes.proofs.Words.{IsIndex, meta_in, same_meta, tables_in, CanAsk, SqlFailsForReason, AreRecords, IsInTransaction}
use Rattle.index_sql_writes.proofs.Words.{MakesInTransaction}
use Rattle.sqlite.specs.State.{Shown, ShowsRows, FailsToQuery, FailsToShow, IsTooLate, IsUnchanged, IsRolledBack}
use Rattle.sqlite.proofs.Callers.{IsPlain}
use Rattle.index_sql_schema.proofs.PlainLemmas.{plain_anywhere}
use Rattle.index_sql_schema.specs.Sure.{IsSure}
use Rattle.index_sql_schema.proofs.SureLemmas.{fails_for}
use Rattle.sqlite.specs.Rows.{Gives}
use Rattle.index_sql_writes.proofs.AskLemmas.{by_cause}

-- with its parameters as they are
pub shown_with : (sql : List ℕ) (cells params : Row) (old new : State) (rows : List Row) → params ≡ cells → Shown sql params old new rows
    → Shown sql cells old new rows
shown_with sql cells params old new rows same shown = subst (λ ps. Shown sql ps old new rows) same shown

module _ (old new : State) where
  unchanged_keeps : IsUnchanged old new → KeepsCommit old new
  unchanged_keeps same = record { was_open = λ _. same.0.was_open; committed = λ _. same.0.committed_is }

  undone_keeps : IsRolledBack old new → KeepsCommit old new
  undone_keeps back = record { was_open = back.was_open; committed = λ o. (back.undone o).1 }

  module _ (sql : List ℕ) (params : Row) where
    -- a query that shows rows changes nothing, whatever schema is in place
    pub shown_unchanged : (rows : List Row) → IsPlain (understood index_schema sql) → Shown sql params old new rows → IsUnchanged old new
    unfolding Shown
    shown_unchanged rows plain h =
        let none = plain_anywhere index_schema old.now.schema sql h.0 plain h.1.is in
        (subst (ShowsRows old new sql h.0 (timed params h.0.formats h.1.now) rows) none h.2).3

    pub shown_keeps : (rows : List Row) → IsPlain (understood index_schema sql) → Shown sql params old new rows → KeepsCommit old new
    shown_keeps rows plain shown = unchanged_keeps (shown_unchanged rows plain shown)

    -- one that fails commits nothing
    pub refused_keeps : (e : Error) → FailsToQuery sql params old new e ⊎ IsTooLate sql params old new e → KeepsCommit old new
    unfolding FailsToQuery IsNotRun
    refused_keeps e (inr late) = unchanged_keeps late.5
    refused_keeps e (inl (inl (inl none))) = unchanged_keeps none.1
    refused_keeps e (inl (inl (inr fails))) = undone_keeps fails.3
    refused_keeps e (inl (inr h)) = by_returning h.0.returning h.2
      where
        by_returning : (what : Option Returning) → FailsToShow old new sql h.0 (timed params h.0.formats h.1.now) e what
            → KeepsCommit old new
        by_returning None it = unchanged_keeps it.3
        by_returning (Some what) (inl same) = unchanged_keeps same.1
        by_returning (Some what) (inr fails) = undone_keeps fails.3

  -- what changes nothing makes nothing of the tables
  pub unchanged_makes : IsUnchanged old new → IsInTransaction old → MakesInTransaction (λ T. T) same_meta old new
  unchanged_makes same ready = record {
    ready = record { is_open = same.0.is_open; inside = same.0.mode ∙ ready.inside; index = subst IsIndex (sym same.0.now_is) ready.index };
    tables = ap (λ (d : Database). tables_in d.trees) same.0.now_is;
    committed = same.0.committed_is;
    meta = ap (λ (d : Database). meta_in d.trees) same.0.now_is;
    records = λ are. subst AreRecords (sym same.0.now_is) are;
  }

-- another word for what was made of these tables
pub makes_as : (change other : Tables → Tables) (first last : State)
    → change (tables_in first.now.trees) ≡ other (tables_in first.now.trees) → MakesInTransaction change same_meta first last
    → MakesInTransaction other same_meta first last
makes_as change other first last same made = record {
  ready = made.ready;
  tables = made.tables ∙ same;
  committed = made.committed;
  meta = made.meta;
  records = made.records;
}

-- a sure query fails with the disk alone
pub query_goes : (sql : List ℕ) (cells params : Row) (old new : State) (e : Error) → params ≡ cells → IsSure sql cells → CanAsk old
    → FailsToQuery sql params old new e ⊎ IsTooLate sql params old new e → SqlFailsForReason (Gives old.now) old new e
query_goes sql cells params old new e given sure can (inr late) store = absurd (true≢false (sym can.ready.inside ∙ late.3))
query_goes sql cells params old new e given sure can (inl fails) store =
    elim (fails_for sql params old new e can.ready.index.schema (subst (IsSure sql) (sym given) sure) fails) [
      | inl failed ↦ elim (by_cause old new ⊥ e can.ready.is_open store failed.0 failed.1 failed.2)
          [ inl fault ↦ inl fault | inr none ↦ absurd none ]
      | inr limited ↦ absurd (true≢false (sym (subst IsSome can.unlimited limited)))
    ]
