-- SELECT FROM cases: the open case of the name.
use Rattle.index_sql_schema.proofs.Words.{◌≡◌, ℕ, List, [], ◌∷◌, codes, slice_get, option_map, refl, arith, get, everything, Text, Row}
use Rattle.index_sql_schema.proofs.Words.{Term, col, understood, State, Shown, Bytes, cases_at, case_in, tables_in, IsIndex, AllByRecursion}
use Rattle.index_sql_schema.proofs.Words.{IsOpenedRow, IsCaseRow, IsSure}
use Rattle.index_sql_schema.specs.StatementTexts.{select_case_text}
use Rattle.index_sql_schema.proofs.QueryShapes.{is_param}
use Rattle.index_sql_schema.proofs.TableLemmas.{cases_keyed}
use Rattle.index_sql_schema.proofs.LookupLemmas.{Selects, selects_text, shows_text}
use Rattle.index_sql_schema.proofs.SureLemmas.{readable_one}
use Rattle.index_sql_schema.proofs.ShownRecords.{case_shown}

abbrev project : List Term
project = col 1 0 ∷ col 1 1 ∷ col 1 2 ∷ col 1 3 ∷ col 1 4 ∷ col 1 5 ∷ col 1 6 ∷ col 1 7 ∷ col 1 8 ∷ col 1 9 ∷ col 1 10 ∷ col 1 11 ∷ col 1 12
    ∷ col 1 13 ∷ []

abbrev headings : List (List ℕ)
headings = codes "rowid" ∷ codes "name" ∷ codes "kind" ∷ codes "candidate" ∷ codes "contact" ∷ codes "work" ∷ codes "why" ∷ codes "opened" ∷
    codes "attempts" ∷ codes "sent" ∷ codes "profile" ∷ codes "author" ∷ codes "pages" ∷ codes "first_sent" ∷ []

pub shown : Selects (cases_at 15) select_case_text (is_param 1 0 ∷ []) project
unfolding understood everything
shown = record { names = headings; compiled = refl; is_plain = (refl, refl); unlisted = refl }

pub selects : (name : Bytes) (old new : State) (rows : List Row) → IsIndex old.now → Shown select_case_text (Text name ∷ []) old new rows
    → option_map case_in (slice_get rows 0) ≡ get (tables_in old.now.trees).cases name
selects = selects_text 7 (cases_at 15) cases_keyed select_case_text project shown case_in (λ params r. refl)

pub sure : (name : Bytes) → IsSure select_case_text (Text name ∷ [])
unfolding understood everything IsSure
sure name = ((omega arith, refl, refl, refl, readable_one 15 (is_param 1 0 ∷ []) project [] headings (Text name ∷ []) refl), refl)

-- the rows that it shows are those of records
pub records : (name : Bytes) (old new : State) (rows : List Row) → IsIndex old.now → Shown select_case_text (Text name ∷ []) old new rows
    → AllByRecursion IsOpenedRow (old.now.trees 15) → AllByRecursion IsCaseRow rows
records = shows_text 7 (cases_at 15) cases_keyed select_case_text project shown IsOpenedRow IsCaseRow (λ params r it. case_shown r it.case)
