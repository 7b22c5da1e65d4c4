-- SELECT FROM files by the file: its record.
use Rattle.index_sql_schema.proofs.Words.{◌≡◌, ℕ, List, [], ◌∷◌, codes, slice_get, option_map, refl, arith, get, everything, Text, Row}
use Rattle.index_sql_schema.proofs.Words.{Term, col, understood, State, Shown, Bytes, files_at, file_in, tables_in, IsIndex, AllByRecursion}
use Rattle.index_sql_schema.proofs.Words.{IsFiledRow, IsFileRow, IsSure}
use Rattle.index_sql_schema.specs.StatementTexts.{select_file_text}
use Rattle.index_sql_schema.proofs.QueryShapes.{is_param}
use Rattle.index_sql_schema.proofs.TableLemmas.{files_keyed}
use Rattle.index_sql_schema.proofs.LookupLemmas.{Selects, selects_text, shows_text}
use Rattle.index_sql_schema.proofs.SureLemmas.{readable_one}
use Rattle.index_sql_schema.proofs.ShownRecords.{file_shown}

abbrev project : List Term
project = col 1 0 ∷ col 1 1 ∷ col 1 2 ∷ col 1 3 ∷ col 1 4 ∷ col 1 5 ∷ col 1 6 ∷ col 1 7 ∷ []

abbrev headings : List (List ℕ)
headings = codes "rowid" ∷ codes "file" ∷ codes "name" ∷ codes "rel" ∷ codes "digest" ∷ codes "size" ∷ codes "requires" ∷ codes "live" ∷ []

pub shown : Selects (files_at 8) select_file_text (is_param 1 0 ∷ []) project
unfolding understood everything
shown = record { names = headings; compiled = refl; is_plain = (refl, refl); unlisted = refl }

pub selects : (file : Bytes) (old new : State) (rows : List Row) → IsIndex old.now → Shown select_file_text (Text file ∷ []) old new rows
    → option_map file_in (slice_get rows 0) ≡ get (tables_in old.now.trees).files file
selects = selects_text 4 (files_at 8) files_keyed select_file_text project shown file_in (λ params r. refl)

pub sure : (file : Bytes) → IsSure select_file_text (Text file ∷ [])
unfolding understood everything IsSure
sure file = ((omega arith, refl, refl, refl, readable_one 8 (is_param 1 0 ∷ []) project [] headings (Text file ∷ []) refl), refl)

-- the rows that it shows are those of records
pub records : (file : Bytes) (old new : State) (rows : List Row) → IsIndex old.now → Shown select_file_text (Text file ∷ []) old new rows
    → AllByRecursion IsFiledRow (old.now.trees 8) → AllByRecursion IsFileRow rows
records = shows_text 4 (files_at 8) files_keyed select_file_text project shown IsFiledRow IsFileRow (λ params r it. file_shown r it.known)
