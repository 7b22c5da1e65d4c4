-- What looks leave: one by what the port says of a query, and several one after another.
use Rattle.index_sql_schema.proofs.Words.{◌≡◌, ◌≤◌, ◌∙◌, ℕ, Bool, true, false, true≢false, List, IsTrue, IsSome, inl, inr, refl, sym, subst}
use Rattle.index_sql_schema.proofs.Words.{arith, StoreError, Trees, Row, Error, state, understood, State, CommitsShowing, Shown}
use Rattle.index_sql_schema.proofs.Words.{FailsToQuery, HasCause, store_error, IsPlain, index_schema, IsIndex, IsUnchangedIfOpen, IsSure}
use Rattle.index_sql_schema.proofs.Words.{QueriesOnly, HasReason, AreRecords}
use Rattle.std.proofs.lemmas.Bool.{cases_Bool}
use Rattle.sqlite_disk.specs.Disk.{MoreFaults}
use Rattle.sqlite_trees.specs.declared.error.StoreError.TheVariants.{OutOfMemory, Io, Corrupt, Full, Broken, Unstorable}
use Rattle.sqlite_trees.specs.declared.store.Store.{Ghosts}
use Rattle.sqlite.specs.Held.{Held}
use Rattle.sqlite.specs.State.{HasCleanDisk, Survives}
use Rattle.sqlite.proofs.StateLemmas.{survives_then, survives_weaker}
use Rattle.index_sql_schema.proofs.StayLemmas.{shown_open, shown_stays, refused_stays}
use Rattle.index_sql_schema.proofs.SureLemmas.{fails_for}
use Rattle.index_rules.specs.declared.answer.Fault.TheVariants as fault
use Rattle.index_sql_schema.specs.Faults.{fault_by}
use Rattle.index_sql_schema.specs.Looks.{IsIndexConnection}
use Rattle.index_sql_schema.proofs.PlainLemmas.{commits_nowhere}

pub clean_before : (old new : State) (P : Trees → Type 0) → Survives old new P → HasCleanDisk new → HasCleanDisk old
clean_before old new P it clean = omega (arith, it.clean)

-- if nothing is done, nothing outlasts a crash
survives_nothing : (s : State) → Survives s s (λ _. ⊥)
survives_nothing s = record {
  clean = omega arith;
  shield = λ h. h;
  counts = omega arith;
  limit = refl;
  closes = λ clean h. inl h;
  crash = λ clean db h. inl h;
}

more_faults : (a b c : ℕ) → a ≤ b → MoreFaults b c → MoreFaults a c
more_faults a b c less more = grind arith

module _ {S : Type 0} (g : Ghosts S) where
  -- ---- one look

  module _ (old new : Held S) (sql : List ℕ) (params : Row) (plain : IsPlain (understood index_schema sql)) (kept : IsIndexConnection g old)
      (ended : new.in_transaction ≡ false)
      (survives : Survives (state g old) (state g new) (CommitsShowing sql params (state g old))) where
    was_clean : HasCleanDisk (state g new) → HasCleanDisk (state g old)
    was_clean = clean_before (state g old) (state g new) _ survives

    -- of a query with this text, which leaves it as it was, or undoes it
    pub looks_by : (did : Bool) → (HasCleanDisk (state g new) → IsUnchangedIfOpen (state g old) (state g new))
        → (IsTrue did → HasCleanDisk (state g new) → IsTrue (state g new).is_open) → QueriesOnly g old new did
    looks_by did stays is_open = record {
      outside = λ _. ended;
      was_clean = was_clean;
      was_open = λ clean. (stays clean).was_open;
      now_is = λ clean. (stays clean).now_is;
      committed_is = λ clean. (stays clean).committed_is;
      lasts = λ it clean was. is_open it clean;
      same = λ it clean. (stays clean).now_is (is_open it clean);
      survives = survives_weaker (state g old) (state g new) _ _ (λ _ db. commits_nowhere index_schema sql params (state g old) db plain)
          survives;
    }

    -- what shows rows was open
    pub index_shown : HasCleanDisk (state g new) → (rows : List Row) → Shown sql params (state g old) (state g new) rows
        → IsIndex (state g old).now
    index_shown clean rows shown = kept.index (was_clean clean) (shown_open (state g old) (state g new) sql params rows shown).0

    pub looks_shown : (rows : List Row) → (HasCleanDisk (state g new) → Shown sql params (state g old) (state g new) rows)
        → QueriesOnly g old new true
    looks_shown rows shown = looks_by true
        (λ clean. shown_stays (state g old) (state g new) sql params rows (index_shown clean rows (shown clean)).schema plain (shown clean))
        (λ it clean. (shown_open (state g old) (state g new) sql params rows (shown clean)).1)

    pub looks_refused : (e : Error) → (HasCleanDisk (state g new) → FailsToQuery sql params (state g old) (state g new) e)
        → QueriesOnly g old new false
    looks_refused e fails = looks_by false
        (λ clean. refused_stays (state g old) (state g new) sql params e (kept.committed (was_clean clean)) (fails clean))
        (λ it. absurd (cc))

  -- ---- several

  -- none
  pub looks_none : (held : Held S) (did : Bool) → QueriesOnly g held held did
  looks_none held did = record {
    outside = λ outside. outside;
    was_clean = λ clean. clean;
    was_open = λ clean o. o;
    now_is = λ clean o. refl;
    committed_is = λ clean o. refl;
    lasts = λ it clean o. o;
    same = λ it clean. refl;
    survives = survives_nothing (state g held);
  }

  -- one after another
  pub looks_then : (a b c : Held S) (did : Bool) → QueriesOnly g a b true → QueriesOnly g b c did → QueriesOnly g a c did
  looks_then a b c did first second = record {
    outside = λ outside. second.outside (first.outside outside);
    was_clean = λ clean. first.was_clean (second.was_clean clean);
    was_open = λ clean o. first.was_open (second.was_clean clean) (second.was_open clean o);
    now_is = λ clean o. second.now_is clean o ∙ first.now_is (second.was_clean clean) (second.was_open clean o);
    committed_is = λ clean o. second.committed_is clean o ∙ first.committed_is (second.was_clean clean) (second.was_open clean o);
    lasts = λ it clean o. second.lasts it clean (first.lasts refl (second.was_clean clean) o);
    same = λ it clean. second.same it clean ∙ first.same refl (second.was_clean clean);
    survives = survives_then (state g a) (state g b) (state g c) _ _ _ (λ _ db none. none) (λ _ db none. none)
        first.survives second.survives;
  }

  -- what follows looks that succeeded may fail
  pub looks_failed : (a b : Held S) (did : Bool) → QueriesOnly g a b true → QueriesOnly g a b did
  looks_failed a b did it = record {
    outside = it.outside;
    was_clean = it.was_clean;
    was_open = it.was_open;
    now_is = it.now_is;
    committed_is = it.committed_is;
    lasts = λ _. it.lasts refl;
    same = λ _. it.same refl;
    survives = it.survives;
  }

  -- an index stays one
  pub looks_kept : (a b : Held S) (did : Bool) → IsIndexConnection g a → QueriesOnly g a b did → IsIndexConnection g b
  looks_kept a b did kept it = record {
    outside = it.outside kept.outside;
    index = λ clean o. subst IsIndex (sym (it.now_is clean o)) (kept.index (it.was_clean clean) (it.was_open clean o));
    committed = λ clean o. it.now_is clean o ∙ kept.committed (it.was_clean clean) (it.was_open clean o) ∙ sym (it.committed_is clean o);
  }

  -- ---- why one fails

  reason_of : (old new : State) (cause : StoreError) → HasCause old new ⊥ cause → fault_by (store_error cause) ≡ fault.Store
      → HasReason old new
  reason_of old new OutOfMemory it is = absurd (let e = is in cc)
  reason_of old new Io it is = inl it
  reason_of old new Corrupt it is = inl it
  reason_of old new Full it is = inl it
  reason_of old new Broken it is = inr (inl it)
  reason_of old new Unstorable it is = absurd it

  -- a sure query of an index that is open fails with the store
  pub reasoned : (old new : Held S) (sql : List ℕ) (params : Row) (e : Error) → IsIndexConnection g old → HasCleanDisk (state g old)
      → IsSure sql params → FailsToQuery sql params (state g old) (state g new) e
      → fault_by e ≡ fault.Store → HasReason (state g old) (state g new)
  reasoned old new sql params e kept clean sure fails is = elim (cases_Bool (state g old).is_open) [
    | inl opened ↦ elim (fails_for sql params (state g old) (state g new) e (kept.index clean opened).schema sure fails) [
      | inl it ↦ reason_of (state g old) (state g new) it.0 it.2 (subst (λ x. fault_by x ≡ fault.Store) it.1 is)
      | inr limit ↦ inr (inr limit)
    ]
    | inr shut ↦ inr (inl shut)
  ]

  -- a reason after looks that succeeded is one from the first of them on
  pub reason_then : (a b c : Held S) → QueriesOnly g a b true → HasCleanDisk (state g b) → HasReason (state g b) (state g c)
      → HasReason (state g a) (state g c)
  reason_then a b c it clean reason = elim (cases_Bool (state g a).is_open) [
    | inr shut ↦ inr (inl shut)
    | inl opened ↦ later it.survives (it.lasts refl clean opened) reason
  ]
    where
      later : Survives (state g a) (state g b) (λ _. ⊥) → IsTrue (state g b).is_open → HasReason (state g b) (state g c)
          → HasReason (state g a) (state g c)
      later s opened (inl more) = inl (more_faults _ _ _ s.counts more)
      later s opened (inr (inl shut)) = absurd (true≢false (sym opened ∙ shut))
      later s opened (inr (inr limit)) = inr (inr (subst IsSome s.limit limit))

  -- so it is of what fails after them
  pub reason_after : (a b c : Held S) (P : Type 0) → QueriesOnly g a b true → (HasCleanDisk (state g c) → HasCleanDisk (state g b))
      → (HasCleanDisk (state g c) → AreRecords (state g b).now → P → HasReason (state g b) (state g c))
      → HasCleanDisk (state g c) → AreRecords (state g a).now → P → HasReason (state g a) (state g c)
  reason_after a b c P first before fails clean records it =
      reason_then a b c first (before clean) (fails clean (subst AreRecords (sym (first.same refl (before clean))) records) it)
