-- The bytes of the files that rows show.
use Rattle.index_sql_writes.proofs.Words.{◌≡◌, ◌<◌, length, IsSome, IsUtf8, subst, true≢false, Bool, true, false, List, [], ◌∷◌, Option}
use Rattle.index_sql_writes.proofs.Words.{None, refl, sym, ap, ◌∙◌, get, remove, same_map, nat_list_cmp_total, exact_bytes, Text, Row}
use Rattle.index_sql_writes.proofs.Words.{Error, fault_by, RowShowsFileName, Bytes, Map, Tables, file_shown, AreFilesOf, deletes_bodies}
use Rattle.index_sql_writes.proofs.Words.{deletes_shown}
use Rattle.std.proofs.Common.{◌≢◌, cond, not, ◌||◌}
use Rattle.std.specs.List.{list_any}
use Rattle.sqlite_value.specs.declared.value.Value.{Value}
use Rattle.sqlite_value.specs.Order.{column}
use Rattle.sqlite.specs.declared.error.Error.TheVariants.{SqliteFailure}
use Rattle.sqlite.specs.declared.error.ErrorCode.TheVariants.{OutOfMemory}
use Rattle.index_names.proofs.NameLemmas.{read_file_name-no_text}
use Rattle.index_rules.specs.declared.answer.Fault.TheVariants as fault
use Rattle.index_sql_schema.specs.RecordRows.{IsFileText}
use Rattle.index_rules.specs.Effect.{is_file_of}
use Rattle.index_rules.specs.Maps.{same}
use Rattle.index_rules.proofs.KeyLemmas.{get-without, get-kept}
use Rattle.index_sql_writes.specs.Writes.{removes}

one_or_rest : {X : Type 0} (one rest : Bool) (at : Option X) → cond rest None (cond one None at) ≡ cond (one || rest) None at
one_or_rest true true at = refl
one_or_rest true false at = refl
one_or_rest false rest at = refl

turned : {X : Type 0} (b : Bool) (at : Option X) → cond b None at ≡ cond (not b) at None
turned true at = refl
turned false at = refl

-- what is left at a file
get-removes : (rows : List Row) (bodies : Map Bytes) (file : Bytes)
    → get (removes rows bodies) file ≡ cond (list_any (λ r. same file (file_shown r)) rows) None (get bodies file)
get-removes [] bodies file = refl
get-removes (r ∷ rows) bodies file =
    get-removes rows (remove bodies (file_shown r)) file
    ∙ ap (cond (list_any (λ r. same file (file_shown r)) rows) None) (get-without bodies (file_shown r) file)
    ∙ one_or_rest (same file (file_shown r)) (list_any (λ r. same file (file_shown r)) rows) (get bodies file)

-- if the rows show the files of a name, their bytes are all of that name's
pub bodies_gone : (name : Bytes) (T : Tables) (rows : List Row) → AreFilesOf name T rows → deletes_shown rows T ≡ deletes_bodies name T
bodies_gone name T rows are = λ i. record T { bodies = gone i }
  where
    gone : removes rows T.bodies ≡ (deletes_bodies name T).bodies
    gone = same_map nat_list_cmp_total exact_bytes _ _ (λ file.
        get-removes rows T.bodies file ∙ ap (λ b. cond b None (get T.bodies file)) (are file)
        ∙ turned (is_file_of T.files name file) (get T.bodies file) ∙ sym (get-kept T.bodies (λ q. not (is_file_of T.files name q)) file))

-- the name of a file is read from its row
never_unread_at : (v : Value) → IsFileText v → ((t : Bytes) × (v ≡ Text t) × IsUtf8 t → ⊥) → ⊥
never_unread_at (Text file) is unread = true≢false (sym (subst IsSome (read_file_name-no_text file (λ utf8. unread (file, refl, utf8))) is))
never_unread_at _ is unread = is

pub never_unread : (r : Row) → RowShowsFileName r → (e : Error) → fault_by e ≡ fault.Store
    → (e ≢ SqliteFailure OutOfMemory → 0 < length r → (t : Bytes) × (column r 0 ≡ Text t) × IsUtf8 t → ⊥) → ⊥
never_unread r shows e store unread =
    never_unread_at (column r 0) shows.1 (unread (λ memory. absurd (let f = subst (λ x. fault_by x ≡ fault.Store) memory store in cc))
    shows.0)
