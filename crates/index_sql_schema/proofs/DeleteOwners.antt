-- DELETE FROM owners: nobody owns the name.
use Rattle.index_sql_schema.proofs.Words.{ℕ, [], ◌∷◌, Ok, refl, everything, Text, joined, same_name, understood, State, Executes, Bytes}
use Rattle.index_sql_schema.proofs.Words.{without_name, owners_at, nothing_in, IsIndex, Changes}
use Rattle.index_sql_schema.specs.StatementTexts.{delete_owners_text}
use Rattle.index_sql_schema.proofs.QueryShapes.{is_param}
use Rattle.index_sql_schema.proofs.TableLemmas.{owners_keyed}
use Rattle.index_sql_schema.proofs.DeleteLemmas.{Deletes, deletes_name}
use Rattle.index_sql_schema.proofs.AfterLemmas.{owners_change}

shown : Deletes 3 (owners_at 6) delete_owners_text (is_param 1 0 ∷ [])
unfolding understood everything same_name joined
shown = record { compiled = refl; is_plain = (refl, refl); none = λ olds. refl }

pub deletes : (name : Bytes) (old new : State) (count : ℕ) → IsIndex old.now
    → Executes delete_owners_text (Text name ∷ []) old new (Ok count)
    → Changes (λ T. record T { owners = without_name name T.owners }) old.now new.now
deletes name old new count h ran =
    let it = deletes_name 3 (owners_at 6) owners_keyed delete_owners_text shown nothing_in name old new count h ran in
    owners_change old.now new.now it.2 (λ T. without_name name T.owners) it.0 it.1
