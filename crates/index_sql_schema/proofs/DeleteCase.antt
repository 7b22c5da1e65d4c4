-- DELETE FROM cases: the name has no open case.
use Rattle.index_sql_schema.proofs.Words.{ℕ, [], ◌∷◌, Ok, refl, remove, everything, Text, joined, same_name, understood, State, Executes}
use Rattle.index_sql_schema.proofs.Words.{Bytes, cases_at, case_in, IsIndex, Changes}
use Rattle.index_sql_schema.specs.StatementTexts.{delete_case_text}
use Rattle.index_sql_schema.proofs.QueryShapes.{is_param}
use Rattle.index_sql_schema.proofs.TableLemmas.{cases_keyed}
use Rattle.index_sql_schema.proofs.DeleteLemmas.{Deletes, deletes_text}
use Rattle.index_sql_schema.proofs.AfterLemmas.{cases_change}

shown : Deletes 7 (cases_at 15) delete_case_text (is_param 1 0 ∷ [])
unfolding understood everything same_name joined
shown = record { compiled = refl; is_plain = (refl, refl); none = λ olds. refl }

pub deletes : (name : Bytes) (old new : State) (count : ℕ) → IsIndex old.now → Executes delete_case_text (Text name ∷ []) old new (Ok count)
    → Changes (λ T. record T { cases = remove T.cases name }) old.now new.now
deletes name old new count h ran =
    let it = deletes_text 7 (cases_at 15) cases_keyed delete_case_text shown case_in name old new count h ran in
    cases_change old.now new.now it.2 (λ T. remove T.cases name) it.0 it.1
