-- What a query leaves, whatever its text is.
use Rattle.index_sql_schema.proofs.Words.{◌≡◌, inl, inr, ℕ, List, Option, Some, None, sym, subst, ◌∙◌, IsTrue, Row, Returning, Error, timed}
use Rattle.index_sql_schema.proofs.Words.{understood, State, Shown, ShowsRows, FailsToQuery, FailsToShow, IsNotRun, IsUnchanged, IsPlain}
use Rattle.index_sql_schema.proofs.Words.{index_schema, IsUnchangedIfOpen}
use Rattle.sqlite.specs.State.{IsRolledBack}
use Rattle.index_sql_schema.proofs.StateLemmas.{shown_same}

module _ (old new : State) where
  pub unchanged_stays : IsUnchanged old new → IsUnchangedIfOpen old new
  unchanged_stays same = record { was_open = λ _. same.0.was_open; now_is = λ _. same.0.now_is; committed_is = λ _. same.0.committed_is }

  -- what shows rows was open, and is
  pub shown_open : (sql : List ℕ) (params : Row) (rows : List Row) → Shown sql params old new rows → IsTrue old.is_open × IsTrue new.is_open
  unfolding Shown
  shown_open sql params rows h = by_returning h.0.returning h.2
    where
      by_returning : (what : Option Returning) → ShowsRows old new sql h.0 (timed params h.0.formats h.1.now) rows what
          → IsTrue old.is_open × IsTrue new.is_open
      by_returning None it = (it.3.0.was_open, it.3.0.is_open)
      by_returning (Some what) it = (it.1.shown.was_open, it.1.shown.is_open)

  pub shown_stays : (sql : List ℕ) (params : Row) (rows : List Row) → old.now.schema ≡ index_schema → IsPlain (understood index_schema sql)
      → Shown sql params old new rows → IsUnchangedIfOpen old new
  shown_stays sql params rows schema plain shown =
      unchanged_stays (shown_same sql params old new rows (subst (λ s. IsPlain (understood s sql)) (sym schema) plain) shown)

  -- outside a transaction a rollback goes back to what is there
  pub undone_stays : (IsTrue old.is_open → old.now ≡ old.committed) → IsRolledBack old new → IsUnchangedIfOpen old new
  undone_stays settled back = record {
    was_open = back.was_open;
    now_is = λ o. (back.undone o).0 ∙ sym (settled (back.was_open o));
    committed_is = λ o. (back.undone o).1;
  }

  pub refused_stays : (sql : List ℕ) (params : Row) (e : Error) → (IsTrue old.is_open → old.now ≡ old.committed)
      → FailsToQuery sql params old new e → IsUnchangedIfOpen old new
  unfolding FailsToQuery IsNotRun
  refused_stays sql params e settled (inl (inl none)) = unchanged_stays none.1
  refused_stays sql params e settled (inl (inr fails)) = undone_stays settled fails.3
  refused_stays sql params e settled (inr h) = by_returning h.0.returning h.2
    where
      by_returning : (what : Option Returning) → FailsToShow old new sql h.0 (timed params h.0.formats h.1.now) e what
          → IsUnchangedIfOpen old new
      by_returning None it = unchanged_stays it.3
      by_returning (Some what) (inl same) = unchanged_stays same.1
      by_returning (Some what) (inr fails) = undone_stays settled fails.3
