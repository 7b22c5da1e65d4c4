-- SELECT FROM names by the name: its record.
use Rattle.index_sql_schema.proofs.Words.{◌≡◌, ℕ, List, [], ◌∷◌, codes, slice_get, option_map, refl, arith, get, everything, Text, Row}
use Rattle.index_sql_schema.proofs.Words.{Term, col, understood, State, Shown, Bytes, names_at, name_in, tables_in, IsIndex, AllByRecursion}
use Rattle.index_sql_schema.proofs.Words.{IsNamedRow, IsNameRow, IsSure}
use Rattle.index_sql_schema.specs.StatementTexts.{select_name_text}
use Rattle.index_sql_schema.proofs.QueryShapes.{is_param}
use Rattle.index_sql_schema.proofs.TableLemmas.{names_keyed}
use Rattle.index_sql_schema.proofs.LookupLemmas.{Selects, selects_text, shows_text}
use Rattle.index_sql_schema.proofs.SureLemmas.{readable_one}
use Rattle.index_sql_schema.proofs.ShownRecords.{name_shown}

abbrev project : List Term
project = col 1 0 ∷ col 1 1 ∷ col 1 2 ∷ col 1 3 ∷ col 1 4 ∷ col 1 5 ∷ col 1 6 ∷ col 1 7 ∷ []

abbrev headings : List (List ℕ)
headings = codes "rowid" ∷ codes "name" ∷ codes "state" ∷ codes "shown" ∷ codes "quota" ∷ codes "charged" ∷ codes "live" ∷ codes
    "last_upload" ∷ []

pub shown : Selects (names_at 4) select_name_text (is_param 1 0 ∷ []) project
unfolding understood everything
shown = record { names = headings; compiled = refl; is_plain = (refl, refl); unlisted = refl }

pub selects : (name : Bytes) (old new : State) (rows : List Row) → IsIndex old.now → Shown select_name_text (Text name ∷ []) old new rows
    → option_map name_in (slice_get rows 0) ≡ get (tables_in old.now.trees).names name
selects = selects_text 2 (names_at 4) names_keyed select_name_text project shown name_in (λ params r. refl)

pub sure : (name : Bytes) → IsSure select_name_text (Text name ∷ [])
unfolding understood everything IsSure
sure name = ((omega arith, refl, refl, refl, readable_one 4 (is_param 1 0 ∷ []) project [] headings (Text name ∷ []) refl), refl)

-- the rows that it shows are those of records
pub records : (name : Bytes) (old new : State) (rows : List Row) → IsIndex old.now → Shown select_name_text (Text name ∷ []) old new rows
    → AllByRecursion IsNamedRow (old.now.trees 4) → AllByRecursion IsNameRow rows
records = shows_text 2 (names_at 4) names_keyed select_name_text project shown IsNamedRow IsNameRow (λ params r it. name_shown r it.found)
