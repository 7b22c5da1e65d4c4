-- Why a query fails that the database refuses for no reason of its own.
use Rattle.index_sql_schema.proofs.Words.{◌≡◌, ◌⊎◌, inl, inr, ℕ, true, false, List, [], append-nil, Option, None, Some, Ok, IsSome, sym, ap}
use Rattle.index_sql_schema.proofs.Words.{subst, ◌∙◌, true≢false, Row, Key, StoreError, Term, left, end, Select, Returning, Compiled, Error}
use Rattle.index_sql_schema.proofs.Words.{timed, Database, understood, reads_listing, State, IsNotRun, FailsToQuery, FailsToShow, HasCause}
use Rattle.index_sql_schema.proofs.Words.{store_error, index_schema, IsSure}
use Rattle.sqlite_typing.specs.Types.{accepts_program}
use Rattle.sqlite.specs.Effect.{RefusesToRead}
use Rattle.sqlite.specs.Listing.{IsSourceOf}
use Rattle.index_sql_schema.specs.Sure.{IsReadable, IsSureAs}
use Rattle.index_sql_schema.proofs.QueryShapes.{plan, from_with, from_one, first_from}

-- a query over one table
pub readable_one : (tree : ℕ) (tests project : List Term) (order : List (Term × Key)) (names : List (List ℕ)) (params : Row)
    → accepts_program index_schema [] (from_one tree tests project order) params ≡ true
    → IsReadable (Select (plan (from_one tree tests project order)) names) params
readable_one tree tests project order names params accepted db is limit e (inl wrong) =
    absurd (true≢false (sym accepted ∙ subst (λ s. accepts_program s [] (from_one tree tests project order) params ≡ false) is wrong.1))
readable_one tree tests project order names params accepted db is limit e (inr (inl (_, inl none))) = absurd none
readable_one tree tests project order names params accepted db is limit e (inr (inl (_, inr none))) = absurd none.4
readable_one tree tests project order names params accepted db is limit e (inr (inr stopped)) = stopped.1

-- a query of one row of a table
pub readable_first : (tree : ℕ) (tests project : List Term) (names : List (List ℕ)) (params : Row)
    → accepts_program index_schema [] (first_from tree tests project) params ≡ true
    → IsReadable (Select (plan (first_from tree tests project)) names) params
readable_first tree tests project names params accepted db is limit e (inl wrong) =
    absurd (true≢false (sym accepted ∙ subst (λ s. accepts_program s [] (first_from tree tests project) params ≡ false) is wrong.1))
readable_first tree tests project names params accepted db is limit e (inr (inl (_, inl none))) = absurd none
readable_first tree tests project names params accepted db is limit e (inr (inl (_, inr none))) = absurd none.4
readable_first tree tests project names params accepted db is limit e (inr (inr stopped)) = stopped.1

-- a query over one table and what is found in another for each row
pub readable_left : (tree other : ℕ) (on tests project : List Term) (order : List (Term × Key)) (names : List (List ℕ)) (params : Row)
    → accepts_program index_schema [] (from_with tree (left other on end) tests project order) params ≡ true
    → IsReadable (Select (plan (from_with tree (left other on end) tests project order)) names) params
readable_left tree other on tests project order names params accepted db is limit e (inl wrong) =
    absurd (true≢false (sym accepted ∙ subst (λ s. accepts_program s [] (from_with tree (left other on end) tests project order) params
    ≡ false) is wrong.1))
readable_left tree other on tests project order names params accepted db is limit e (inr (inl (_, inl none))) = absurd none
readable_left tree other on tests project order names params accepted db is limit e (inr (inl (_, inr none))) = absurd none.4.4
readable_left tree other on tests project order names params accepted db is limit e (inr (inr stopped)) = stopped.1

module _ (sql : List ℕ) (params : Row) (old new : State) (e : Error) (has : old.now.schema ≡ index_schema) (sure : IsSure sql params) where
  -- it fails with the store, or at the limit on its steps
  abbrev pub FailsFor : Type 0
  FailsFor = ((cause : StoreError) × (e ≡ store_error cause) × HasCause old new ⊥ cause) ⊎ IsSome old.step_limit

  sure_of : (c : Compiled) → understood old.now.schema sql ≡ Ok c → IsSureAs sql params (Ok c)
  unfolding IsSure
  sure_of c is = subst (IsSureAs sql params) (ap (λ s. understood s sql) (sym has) ∙ is) sure.0

  pub fails_for : FailsToQuery sql params old new e → FailsFor
  unfolding FailsToQuery IsNotRun IsSure
  fails_for (inl (inl (inl none, _))) = absurd (subst (IsSureAs sql params) (ap (λ s. understood s sql) (sym has) ∙ none.1) sure.0)
  fails_for (inl (inl (inr (c, is, inl more), _))) = absurd (more.0 (sure_of c is).0)
  fails_for (inl (inl (inr (c, is, inr (inl given)), _))) = absurd (given.0 (sure_of c is).1)
  fails_for (inl (inl (inr (c, is, inr (inr clock)), _))) = absurd (clock.0 (sure_of c is).2)
  fails_for (inl (inr fails)) = inl (fails.0, fails.1, fails.2)
  fails_for (inr h) = by_returning h.0.returning known.3 h.2
    where
      known : IsSureAs sql params (Ok h.0)
      known = sure_of h.0 h.1.is

      by_returning : (what : Option Returning) → what ≡ None → FailsToShow old new sql h.0 (timed params h.0.formats h.1.now) e what
          → FailsFor
      by_returning None _ it =
          let same : it.0 ≡ old.now = subst (λ b. IsSourceOf b old.now it.0) (ap (λ s. reads_listing s sql) has ∙ sure.1) it.1 in
          let refuses : RefusesToRead old.step_limit h.0.command it.0 params e = rw (known.2, append-nil params) at it.2 in
          inr (known.4 it.0 (ap (λ (d : Database). d.schema) same ∙ has) old.step_limit e refuses)
      by_returning (Some what) some it = absurd (let f = some in cc)
