-- What looks at the version leave.
use Rattle.index_sql_opening.proofs.Words.{◌≡◌, ◌⊎◌, inl, inr, ◌∙◌, ℕ, true, false, true≢false, List, [], Option, Some, None, IsTrue, refl}
use Rattle.index_sql_opening.proofs.Words.{sym, subst, arith, Row, Ghosts, Returning, Error, timed, Held, state, State, HasCleanDisk}
use Rattle.index_sql_opening.proofs.Words.{FailsToQuery, FailsToShow, IsNotRun, everything, understood, IsAnyVersion, select_version_text}
use Rattle.index_sql_opening.proofs.Words.{shown_open, index_schema}
use Rattle.std.proofs.Common.{Bool}
use Rattle.sqlite.specs.State.{Survives, CommitsShowing, Shown, ShowsRows}
use Rattle.sqlite.specs.State.{IsTooLate, IsUnchanged, IsRolledBack, KeepsCommit}
use Rattle.sqlite.proofs.Callers.{IsPlain, survives_begin}
use Rattle.sqlite.proofs.StateLemmas.{survives_then, survives_weaker}
use Rattle.index_sql_schema.specs.Unchanged.{IsUnchangedIfOpen}
use Rattle.index_sql_schema.proofs.StateLemmas.{shown_same}
use Rattle.index_sql_schema.proofs.StayLemmas.{unchanged_stays, refused_stays}
use Rattle.index_sql_schema.proofs.SelectVersion as select_version
use Rattle.index_sql_schema.specs.Looks.{QueriesOnly}
use Rattle.index_sql_schema.proofs.PlainLemmas.{commits_nowhere}
use Rattle.index_sql_opening.specs.Making.{IsAtRest}
use Rattle.index_sql_opening.specs.Versions.{begun}

plain_text : IsPlain (understood index_schema select_version_text)
unfolding understood everything
plain_text = (refl, refl)

-- ---- under a schema of ours

module _ {S : Type 0} (g : Ghosts S) (old new : Held S) (known : IsTrue (state g old).is_open
    → IsAnyVersion (state g old).now) (ended : new.in_transaction ≡ false)
    (survives : Survives (state g old) (state g new) (CommitsShowing select_version_text [] (state g old))) where
  looks_by : (did : Bool) → (HasCleanDisk (state g new) → IsUnchangedIfOpen (state g old) (state g new))
      → (IsTrue did → HasCleanDisk (state g new) → IsTrue (state g new).is_open) → QueriesOnly g old new did
  looks_by did stays is_open = record {
    outside = λ _. ended;
    was_clean = λ clean. omega (arith, survives.clean);
    was_open = λ clean. (stays clean).was_open;
    now_is = λ clean. (stays clean).now_is;
    committed_is = λ clean. (stays clean).committed_is;
    lasts = λ it clean was. is_open it clean;
    same = λ it clean. (stays clean).now_is (is_open it clean);
    survives = survives_weaker (state g old) (state g new) _ _
        (λ _ db. commits_nowhere index_schema select_version_text [] (state g old) db plain_text) survives;
  }

  pub looks_shown : (rows : List Row) → (HasCleanDisk (state g new) → Shown select_version_text [] (state g old) (state g new) rows)
      → (did : Bool) → QueriesOnly g old new did
  looks_shown rows shown did = looks_by did
      (λ clean. unchanged_stays (state g old) (state g new)
      (shown_same select_version_text [] (state g old) (state g new) rows
      (select_version.is_plain (state g old).now
      (known (shown_open (state g old) (state g new) select_version_text [] rows (shown clean)).0)) (shown clean)))
      (λ it clean. (shown_open (state g old) (state g new) select_version_text [] rows (shown clean)).1)

  pub looks_refused : (e : Error) (did : Bool) → did ≡ false → IsAtRest g old
      → (HasCleanDisk (state g new) → FailsToQuery select_version_text [] (state g old) (state g new) e) → QueriesOnly g old new did
  looks_refused e did failed rest fails = looks_by did
      (λ clean. refused_stays (state g old) (state g new) select_version_text [] e (rest.settled (omega (arith, survives.clean)))
      (fails clean))
      (λ it. absurd (cc))

-- ---- inside a transaction, under any schema

module _ (old new : State) where
  unchanged_keeps : IsUnchanged old new → KeepsCommit old new
  unchanged_keeps same = record { was_open = λ _. same.0.was_open; committed = λ _. same.0.committed_is }

  undone_keeps : IsRolledBack old new → KeepsCommit old new
  undone_keeps back = record { was_open = back.was_open; committed = λ o. (back.undone o).1 }

  pub shown_keeps : (sql : List ℕ) (params : Row) (rows : List Row) → old.in_transaction ≡ true → Shown sql params old new rows
      → KeepsCommit old new
  unfolding Shown
  shown_keeps sql params rows inside h = by_returning h.0.returning h.2
    where
      by_returning : (what : Option Returning) → ShowsRows old new sql h.0 (timed params h.0.formats h.1.now) rows what
          → KeepsCommit old new
      by_returning None it = unchanged_keeps it.3
      by_returning (Some what) it = record { was_open = λ _. it.1.shown.was_open; committed = λ _. rw inside at it.1.shown.committed_is }

  -- inside a transaction it is never too late
  pub fails_inside : (sql : List ℕ) (params : Row) (e : Error) → old.in_transaction ≡ true
      → FailsToQuery sql params old new e ⊎ IsTooLate sql params old new e → FailsToQuery sql params old new e
  fails_inside sql params e inside (inl fails) = fails
  fails_inside sql params e inside (inr late) = absurd (true≢false (sym inside ∙ late.3))

  pub refused_keeps : (sql : List ℕ) (params : Row) (e : Error) → FailsToQuery sql params old new e ⊎ IsTooLate sql params old new e
      → KeepsCommit old new
  unfolding FailsToQuery IsNotRun
  refused_keeps sql params e (inl (inl (inl none))) = unchanged_keeps none.1
  refused_keeps sql params e (inl (inl (inr fails))) = undone_keeps fails.3
  refused_keeps sql params e (inl (inr h)) = by_returning h.0.returning h.2
    where
      by_returning : (what : Option Returning) → FailsToShow old new sql h.0 (timed params h.0.formats h.1.now) e what → KeepsCommit old new
      by_returning None it = unchanged_keeps it.3
      by_returning (Some what) (inl same) = unchanged_keeps same.1
      by_returning (Some what) (inr fails) = undone_keeps fails.3
  refused_keeps sql params e (inr late) = unchanged_keeps late.5

-- a transaction that is dropped, after what commits nothing
pub looks_dropped : {S : Type 0} (g : Ghosts S) (old start mid new : Held S) → start ≡ begun old → IsAtRest g old
    → (HasCleanDisk (state g mid) → KeepsCommit (state g start) (state g mid)) → Survives (state g start) (state g mid) (λ _. ⊥)
    → new.in_transaction ≡ false → (HasCleanDisk (state g new) → IsRolledBack (state g mid) (state g new))
    → Survives (state g mid) (state g new) (λ _. ⊥) → QueriesOnly g old new false
looks_dropped g old start mid new is rest kept_start ran_start ended undone dropped =
    let kept : HasCleanDisk (state g mid) → KeepsCommit (state g (begun old)) (state g mid) =
    subst (λ h. HasCleanDisk (state g mid) → KeepsCommit (state g h) (state g mid)) is kept_start in
    let ran : Survives (state g (begun old)) (state g mid) (λ _. ⊥) =
    subst (λ h. Survives (state g h) (state g mid) (λ _. ⊥)) is ran_start in
    let before : HasCleanDisk (state g new) → HasCleanDisk (state g mid) = λ clean. omega (arith, dropped.clean) in
    let first : HasCleanDisk (state g new) → HasCleanDisk (state g old) = λ clean. let at_mid = before clean in omega (arith, ran.clean) in
    let was : (clean : HasCleanDisk (state g new)) → IsTrue (state g new).is_open
    → IsTrue (state g old).is_open = λ clean o. (kept (before clean)).was_open ((undone clean).was_open o) in
    let same : (clean : HasCleanDisk (state g new)) (o : IsTrue (state g new).is_open)
    → (state g mid).committed ≡ (state g old).committed = λ clean o. (kept (before clean)).committed ((undone clean).was_open o) in
    record {
      outside = λ _. ended;
      was_clean = first;
      was_open = was;
      now_is = λ clean o. ((undone clean).undone o).0 ∙ same clean o ∙ sym (rest.settled (first clean) (was clean o));
      committed_is = λ clean o. ((undone clean).undone o).1 ∙ same clean o;
      lasts = λ it. absurd (cc);
      same = λ it. absurd (cc);
      survives = survives_begin g old (state g new) (λ _. ⊥)
          (survives_then (state g (begun old)) (state g mid) (state g new) _ _ _ (λ _ db none. none) (λ _ db none. none) ran dropped);
    }
