-- Why the query of the version fails: under a schema of ours it is refused for no reason of its own.
use Rattle.index_sql_opening.proofs.Words.{◌≡◌, ◌⊎◌, ◌≤◌, inl, inr, ◌∙◌, ℕ, pos, true, false, true≢false, List, [], ◌∷◌, length, Option}
use Rattle.index_sql_opening.proofs.Words.{None, Some, Result, Ok, Err, IsTrue, refl, sym, ap, subst, arith, everything, Int, Returning}
use Rattle.index_sql_opening.proofs.Words.{Schema, Error, timed, understood, State, IsNotRun, FailsToQuery, FailsToShow}
use Rattle.index_sql_opening.proofs.Words.{first_version_schema, IsAnyVersion, index_schema, select_version_text}
use Rattle.std.proofs.Common.{codes}
use Rattle.std.proofs.Common.{IsSome}
use Rattle.std.proofs.lemmas.Bool.{cases_Bool}
use Rattle.sqlite_value.specs.declared.keys.Collation.TheVariants.{Binary}
use Rattle.sqlite_value.specs.declared.value.Value.TheVariants.{Text}
use Rattle.sqlite_trees.specs.declared.error.StoreError.{StoreError}
use Rattle.sqlite_trees.specs.declared.error.StoreError.TheVariants.{OutOfMemory, Io, Corrupt, Full, Broken, Unstorable}
use Rattle.sqlite_sql.specs.Term.{Term, lit, col, op2}
use Rattle.sqlite_sql.specs.declared.ops.BinaryOp.TheVariants.{Compare}
use Rattle.sqlite_sql.specs.declared.ops.CompareOp.TheVariants.{Eq}
use Rattle.sqlite_schema.specs.declared.command.Command.{Command}
use Rattle.sqlite_schema.specs.declared.command.Command.TheVariants.{Select}
use Rattle.sqlite_resolve.specs.declared.compiled.Compiled.{Compiled}
use Rattle.sqlite_resolve.specs.declared.error.CompileError.{CompileError}
use Rattle.sqlite_typing.specs.Types.{accepts_program}
use Rattle.sqlite.specs.Effect.{Database, RefusesToRead}
use Rattle.sqlite.specs.Listing.{reads_listing, IsSourceOf}
use Rattle.sqlite.specs.State.{HasCause, store_error}
use Rattle.index_sql_schema.specs.Faults.{fault_by}
use Rattle.index_sql_schema.specs.Reasons.{HasReason}
use Rattle.index_rules.specs.declared.answer.Fault.TheVariants as fault
use Rattle.index_sql_schema.proofs.QueryShapes.{plan, from_one}

abbrev tests : List Term
tests = op2 (Compare Eq Binary) (col 1 0) (lit (Int (pos 1))) ∷ op2 (Compare Eq Binary) (col 1 2) (lit (Text (codes "python-index"))) ∷ []

abbrev project : List Term
project = col 1 3 ∷ []

-- whatever the rows are under this schema, it is refused only if its steps are limited
abbrev IsReadable : Schema → Command → Type 0
IsReadable schema command = (db : Database) → db.schema ≡ schema → (limit : Option ℕ) (e : Error) → RefusesToRead limit command db [] e
    → IsSome limit

abbrev IsSureAs : Schema → Result Compiled CompileError → Type 0
IsSureAs schema (Ok c) = (length select_version_text ≤ c.tail) × (0 ≡ length c.names) × (c.formats ≡ []) × (c.returning ≡ None)
    × IsReadable schema c.command
IsSureAs schema (Err e) = ⊥

abbrev IsSure : Schema → Type 0
IsSure schema = IsSureAs schema (understood schema select_version_text) × (reads_listing schema select_version_text ≡ false)

readable : (schema : Schema) → accepts_program schema [] (from_one 0 tests project []) [] ≡ true
    → IsReadable schema (Select (plan (from_one 0 tests project [])) (codes "version" ∷ []))
readable schema accepted db is limit e (inl wrong) =
    absurd (true≢false (sym accepted ∙ subst (λ s. accepts_program s [] (from_one 0 tests project []) [] ≡ false) is wrong.1))
readable schema accepted db is limit e (inr (inl (_, inl none))) = absurd none
readable schema accepted db is limit e (inr (inl (_, inr none))) = absurd none.4
readable schema accepted db is limit e (inr (inr stopped)) = stopped.1

sure : IsSure index_schema
unfolding understood everything
sure = ((omega arith, refl, refl, refl, readable index_schema refl), refl)

sure_first : IsSure first_version_schema
unfolding understood everything
sure_first = ((omega arith, refl, refl, refl, readable first_version_schema refl), refl)

module _ (old new : State) (e : Error) where
  abbrev FailsFor : Type 0
  FailsFor = ((cause : StoreError) × (e ≡ store_error cause) × HasCause old new ⊥ cause) ⊎ IsSome old.step_limit

  module _ (schema : Schema) (has : old.now.schema ≡ schema) (it : IsSure schema) where
    sure_of : (c : Compiled) → understood old.now.schema select_version_text ≡ Ok c → IsSureAs schema (Ok c)
    sure_of c is = subst (IsSureAs schema) (ap (λ s. understood s select_version_text) (sym has) ∙ is) it.0

    fails_for : FailsToQuery select_version_text [] old new e → FailsFor
    unfolding FailsToQuery IsNotRun
    fails_for (inl (inl (inl none, _))) = absurd
        (subst (IsSureAs schema) (ap (λ s. understood s select_version_text) (sym has) ∙ none.1) it.0)
    fails_for (inl (inl (inr (c, is, inl more), _))) = absurd (more.0 (sure_of c is).0)
    fails_for (inl (inl (inr (c, is, inr (inl given)), _))) = absurd (given.0 (sure_of c is).1)
    fails_for (inl (inl (inr (c, is, inr (inr clock)), _))) = absurd (clock.0 (sure_of c is).2)
    fails_for (inl (inr fails)) = inl (fails.0, fails.1, fails.2)
    fails_for (inr h) = by_returning h.0.returning known.3 h.2
      where
        known : IsSureAs schema (Ok h.0)
        known = sure_of h.0 h.1.is

        by_returning : (what : Option Returning) → what ≡ None
            → FailsToShow old new select_version_text h.0 (timed [] h.0.formats h.1.now) e what → FailsFor
        by_returning None _ shown =
            let same : shown.0 ≡ old.now = subst (λ b. IsSourceOf b old.now shown.0)
            (ap (λ s. reads_listing s select_version_text) has ∙ it.1) shown.1 in
            let refuses : RefusesToRead old.step_limit h.0.command shown.0 [] e = rw known.2 at shown.2 in
            inr (known.4 shown.0 (ap (λ (d : Database). d.schema) same ∙ has) old.step_limit e refuses)
        by_returning (Some what) some shown = absurd (let f = some in cc)

  reason_of : (cause : StoreError) → HasCause old new ⊥ cause → fault_by (store_error cause) ≡ fault.Store → HasReason old new
  reason_of OutOfMemory it is = absurd (let f = is in cc)
  reason_of Io it is = inl it
  reason_of Corrupt it is = inl it
  reason_of Full it is = inl it
  reason_of Broken it is = inr (inl it)
  reason_of Unstorable it is = absurd it

  reason_for : fault_by e ≡ fault.Store → FailsFor → HasReason old new
  reason_for is (inl it) = reason_of it.0 it.2 (subst (λ x. fault_by x ≡ fault.Store) it.1 is)
  reason_for is (inr limit) = inr (inr limit)

  known_reason : IsAnyVersion old.now → FailsToQuery select_version_text [] old new e → fault_by e ≡ fault.Store → HasReason old new
  known_reason (inl h) fails is = reason_for is (fails_for index_schema h.schema sure fails)
  known_reason (inr h) fails is = reason_for is (fails_for first_version_schema h.schema sure_first fails)

  -- so it fails with the store
  pub reasoned : (IsTrue old.is_open → IsAnyVersion old.now) → FailsToQuery select_version_text [] old new e → fault_by e ≡ fault.Store
      → HasReason old new
  reasoned known fails is = elim (cases_Bool old.is_open) [
    | inl opened ↦ known_reason (known opened) fails is
    | inr shut ↦ inr (inl shut)
  ]
