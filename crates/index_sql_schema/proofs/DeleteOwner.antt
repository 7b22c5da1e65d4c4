-- DELETE FROM owners by name and user: the user does not own the name.
use Rattle.index_sql_schema.proofs.Words.{ℕ, [], ◌∷◌, Ok, refl, remove, everything, Text, joined, same_name, understood, State, Executes}
use Rattle.index_sql_schema.proofs.Words.{Bytes, owners_at, nothing_in, IsIndex, Changes}
use Rattle.index_sql_schema.specs.StatementTexts.{delete_owner_text}
use Rattle.index_sql_schema.proofs.QueryShapes.{is_param}
use Rattle.index_sql_schema.proofs.TableLemmas.{owners_keyed}
use Rattle.index_sql_schema.proofs.DeleteLemmas.{Deletes, deletes_pair}
use Rattle.index_sql_schema.proofs.AfterLemmas.{owners_change}

shown : Deletes 3 (owners_at 6) delete_owner_text (is_param 1 0 ∷ is_param 2 1 ∷ [])
unfolding understood everything same_name joined
shown = record { compiled = refl; is_plain = (refl, refl); none = λ olds. refl }

pub deletes : (name user : Bytes) (old new : State) (count : ℕ) → IsIndex old.now
    → Executes delete_owner_text (Text name ∷ Text user ∷ []) old new (Ok count)
    → Changes (λ T. record T { owners = remove T.owners (name, user) }) old.now new.now
deletes name user old new count h ran =
    let it = deletes_pair 3 (owners_at 6) owners_keyed delete_owner_text shown nothing_in (name, user) old new count h ran in
    owners_change old.now new.now it.2 (λ T. remove T.owners (name, user)) it.0 it.1
