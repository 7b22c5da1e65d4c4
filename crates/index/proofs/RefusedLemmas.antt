-- The cause for which a database was refused.
use Rattle.index.proofs.Words.{◌≡◌, refl, sym, subst, subst₂, ◌&&◌, Bool, true, false, Option, Some, None, Result, Ok, Err, FileStore}
use Rattle.index.proofs.Words.{tally_of_files, Ghosts, Tally, both_counts, Schema, files, Cause, SchemaHasCause, cause_of_calls}
use Rattle.index.proofs.Words.{cause_of_store}
use Rattle.std.proofs.Common.{is_some}
use Rattle.std.specs.Prelude.{IfOk, IsSome}
use Rattle.std.specs.Result.{result_unwrap_or}

-- the schema told it, if there is one
pub told_by_schema : {E : Type 0} (schema : Schema) (found : Result (Option Cause) E) (cause : Option Cause)
    → IfOk found (λ cause. IsSome cause → SchemaHasCause schema cause) → cause ≡ result_unwrap_or found None → is_some cause ≡ true
    → SchemaHasCause schema cause
told_by_schema schema (Ok (Some told)) cause tells is some = subst (λ it. SchemaHasCause schema it) (sym is) (tells refl)
told_by_schema schema (Ok None) cause tells is some = let no : false ≡ true = subst (λ it. is_some it ≡ true) is some in cc no
told_by_schema schema (Err e) cause tells is some = let no : false ≡ true = subst (λ it. is_some it ≡ true) is some in cc no

-- the two files of a store told it
pub told_by_files : {D : Type 0} {g : Ghosts D} (store : FileStore D g) (log db : D) (tally : Tally) (usable : Bool) (cause : Option Cause)
    → (log, db) ≡ files store → tally ≡ both_counts (g.tally_of log) (g.tally_of db) → usable ≡ (g.is_usable log && g.is_usable db)
    → cause ≡ cause_of_calls tally usable → cause ≡ cause_of_store store
told_by_files {D} {g} store log db tally usable cause both counted used is =
    subst (λ (it : D × D). cause ≡ cause_of_calls (tally_of_files g it) (g.is_usable it.0 && g.is_usable it.1)) both
    (subst₂ (λ t u. cause ≡ cause_of_calls t u) counted used is)
