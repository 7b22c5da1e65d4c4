-- DELETE FROM yanks by name: no release of the name is yanked.
use Rattle.index_sql_schema.proofs.Words.{ℕ, [], ◌∷◌, Ok, refl, without_name, everything, Text, joined, same_name, understood, State}
use Rattle.index_sql_schema.proofs.Words.{Executes, Bytes, yanks_at, reason_in, IsIndex, Changes}
use Rattle.index_sql_schema.specs.StatementTexts.{delete_yanks_text}
use Rattle.index_sql_schema.proofs.QueryShapes.{is_param}
use Rattle.index_sql_schema.proofs.TableLemmas.{yanks_keyed}
use Rattle.index_sql_schema.proofs.DeleteLemmas.{Deletes, deletes_name}
use Rattle.index_sql_schema.proofs.AfterLemmas.{yanks_change}

shown : Deletes 6 (yanks_at 13) delete_yanks_text (is_param 1 0 ∷ [])
unfolding understood everything same_name joined
shown = record { compiled = refl; is_plain = (refl, refl); none = λ olds. refl }

pub deletes : (name : Bytes) (old new : State) (count : ℕ) → IsIndex old.now
    → Executes delete_yanks_text (Text name ∷ []) old new (Ok count)
    → Changes (λ T. record T { yanks = without_name name T.yanks }) old.now new.now
deletes name old new count h ran =
    let it = deletes_name 6 (yanks_at 13) yanks_keyed delete_yanks_text shown reason_in name old new count h ran in
    yanks_change old.now new.now it.2 (λ T. without_name name T.yanks) it.0 it.1
