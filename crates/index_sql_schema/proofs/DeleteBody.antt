-- DELETE FROM blobs by file: the bytes of the file go.
use Rattle.index_sql_schema.proofs.Words.{ℕ, [], ◌∷◌, Ok, refl, remove, everything, Text, joined, same_name, understood, State, Executes}
use Rattle.index_sql_schema.proofs.Words.{Bytes, blobs_at, body_in, IsIndex, Changes}
use Rattle.index_sql_schema.specs.StatementTexts.{delete_body_text}
use Rattle.index_sql_schema.proofs.QueryShapes.{is_param}
use Rattle.index_sql_schema.proofs.TableLemmas.{blobs_keyed}
use Rattle.index_sql_schema.proofs.DeleteLemmas.{Deletes, deletes_text}
use Rattle.index_sql_schema.proofs.AfterLemmas.{bodies_change}

shown : Deletes 5 (blobs_at 11) delete_body_text (is_param 1 0 ∷ [])
unfolding understood everything same_name joined
shown = record { compiled = refl; is_plain = (refl, refl); none = λ olds. refl }

pub deletes : (file : Bytes) (old new : State) (count : ℕ) → IsIndex old.now → Executes delete_body_text (Text file ∷ []) old new (Ok count)
    → Changes (λ T. record T { bodies = remove T.bodies file }) old.now new.now
deletes file old new count h ran =
    let it = deletes_text 5 (blobs_at 11) blobs_keyed delete_body_text shown body_in file old new count h ran in
    bodies_change old.now new.now it.2 (λ T. remove T.bodies file) it.0 it.1
