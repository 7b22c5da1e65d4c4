-- DELETE FROM yanks by name and release: the release is not yanked.
use Rattle.index_sql_schema.proofs.Words.{ℕ, [], ◌∷◌, Ok, refl, remove, everything, Text, joined, same_name, understood, State, Executes}
use Rattle.index_sql_schema.proofs.Words.{Bytes, yanks_at, reason_in, IsIndex, Changes}
use Rattle.index_sql_schema.specs.StatementTexts.{delete_yank_text}
use Rattle.index_sql_schema.proofs.QueryShapes.{is_param}
use Rattle.index_sql_schema.proofs.TableLemmas.{yanks_keyed}
use Rattle.index_sql_schema.proofs.DeleteLemmas.{Deletes, deletes_pair}
use Rattle.index_sql_schema.proofs.AfterLemmas.{yanks_change}

shown : Deletes 6 (yanks_at 13) delete_yank_text (is_param 1 0 ∷ is_param 2 1 ∷ [])
unfolding understood everything same_name joined
shown = record { compiled = refl; is_plain = (refl, refl); none = λ olds. refl }

pub deletes : (name release : Bytes) (old new : State) (count : ℕ) → IsIndex old.now
    → Executes delete_yank_text (Text name ∷ Text release ∷ []) old new (Ok count)
    → Changes (λ T. record T { yanks = remove T.yanks (name, release) }) old.now new.now
deletes name release old new count h ran =
    let it = deletes_pair 6 (yanks_at 13) yanks_keyed delete_yank_text shown reason_in (name, release) old new count h ran in
    yanks_change old.now new.now it.2 (λ T. remove T.yanks (name, release)) it.0 it.1
