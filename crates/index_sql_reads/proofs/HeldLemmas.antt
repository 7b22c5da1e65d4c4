-- SELECT FROM names .. WHERE state <> 2: it is refused for no reason of its own, and its rows are those of records.
use Rattle.index_sql_reads.proofs.Words.{◌≡◌, ℕ, Bool, not, List, [], ◌∷◌, refl, arith, AllByRecursion, everything, Row, understood, State}
use Rattle.index_sql_reads.proofs.Words.{Shown, IsIndex, AreRecords, IsNamedRow, index_schema, select_held_text, IsSure, held_shown}
use Rattle.index_sql_reads.proofs.Words.{known_records}
use Rattle.std.proofs.Common.{◌==◌, codes}
use Rattle.std.specs.List.{list_all}
use Rattle.sqlite_value.specs.declared.value.Value.TheVariants.{Null}
use Rattle.sqlite_value.specs.Order.{column}
use Rattle.sqlite_sql.specs.Term.{Term, col, holds}
use Rattle.sqlite_sql.specs.Query.{end}
use Rattle.sqlite_sql.specs.Program.{overlay}
use Rattle.sqlite_sql.specs.declared.ops.CompareOp.TheVariants.{Ne}
use Rattle.sqlite.proofs.Callers.{reads_as}
use Rattle.sqlite_keyed.proofs.ListLemmas.{all_weaker, all_of}
use Rattle.sqlite_typed.proofs.TestLemmas.{last_term}
use Rattle.index_sql_schema.specs.Records.{number_in}
use Rattle.index_sql_schema.specs.Schema.{names_at}
use Rattle.index_sql_schema.proofs.KeyLemmas.{IsNumber, wholes}
use Rattle.index_sql_schema.proofs.NumberLemmas.{is_number, other_test}
use Rattle.index_sql_schema.proofs.OrderLemmas.{by_column}
use Rattle.index_sql_schema.proofs.SelectLemmas.{read_all}
use Rattle.index_sql_schema.proofs.ShownRecords.{name_shown}
use Rattle.index_sql_schema.proofs.SureLemmas.{readable_one}

abbrev project : List Term
project = col 1 0 ∷ col 1 1 ∷ col 1 2 ∷ col 1 3 ∷ col 1 4 ∷ col 1 5 ∷ col 1 6 ∷ col 1 7 ∷ []

abbrev headings : List (List ℕ)
headings = codes "rowid" ∷ codes "name" ∷ codes "state" ∷ codes "shown" ∷ codes "quota" ∷ codes "charged" ∷ codes "live" ∷ codes
    "last_upload" ∷ []

abbrev tests : List Term
tests = is_number Ne 2 2 ∷ []

pub sure : IsSure select_held_text []
unfolding understood everything IsSure
sure = ((omega arith, refl, refl, refl, readable_one 4 tests project (by_column 1) headings [] refl), refl)

pub records : (old new : State) (rows : List Row) → IsIndex old.now → AreRecords old.now → Shown select_held_text [] old new rows
    → AllByRecursion IsNamedRow rows
records old new rows h are shown =
    let rs = old.now.trees 4 in
    let passes : Row → Bool = λ r. not (number_in (column r 2) == 2) in
    let states = wholes 2 (names_at 4) refl old.now h refl 1 _ refl refl refl refl in
    let same = all_weaker (IsNumber 2) (λ r. list_all (holds ([] ∷ r ∷ [])) tests ≡ passes r) (λ r is. last_term (other_test [] 2 1 r is))
    rs states in
    let answer = reads_as select_held_text [] old new index_schema h.schema _ held_shown.compiled held_shown.is_plain held_shown.unlisted
    rows shown in
    read_all 4 end tests project (by_column 1) (overlay old.now.trees []) [] (λ r. [] ∷ r ∷ []) passes (all_of _ (λ r. refl) rs)
    same IsNamedRow IsNamedRow (λ r it. record { name = it.name; found = name_shown r it.found }) rows (answer.answer Null)
    (known_records old.now h are).1.1.0
