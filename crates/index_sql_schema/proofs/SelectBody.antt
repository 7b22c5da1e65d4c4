-- SELECT FROM blobs: the bytes of the file.
use Rattle.index_sql_schema.proofs.Words.{◌≡◌, ℕ, List, [], ◌∷◌, codes, slice_get, option_map, refl, arith, get, everything, Text, Row}
use Rattle.index_sql_schema.proofs.Words.{Term, col, understood, State, Shown, Bytes, blobs_at, body_in, tables_in, IsIndex, AllByRecursion}
use Rattle.index_sql_schema.proofs.Words.{IsStoredRow, IsSure}
use Rattle.index_sql_schema.specs.StatementTexts.{select_body_text}
use Rattle.index_sql_schema.proofs.QueryShapes.{is_param}
use Rattle.index_sql_schema.proofs.TableLemmas.{blobs_keyed}
use Rattle.index_sql_schema.proofs.LookupLemmas.{Selects, selects_text, shows_text}
use Rattle.index_sql_schema.specs.RecordRows.{IsBodyRow}
use Rattle.index_sql_schema.proofs.SureLemmas.{readable_one}

abbrev project : List Term
project = col 1 0 ∷ col 1 1 ∷ col 1 2 ∷ []

abbrev headings : List (List ℕ)
headings = codes "rowid" ∷ codes "file" ∷ codes "body" ∷ []

pub shown : Selects (blobs_at 11) select_body_text (is_param 1 0 ∷ []) project
unfolding understood everything
shown = record { names = headings; compiled = refl; is_plain = (refl, refl); unlisted = refl }

pub selects : (file : Bytes) (old new : State) (rows : List Row) → IsIndex old.now → Shown select_body_text (Text file ∷ []) old new rows
    → option_map body_in (slice_get rows 0) ≡ get (tables_in old.now.trees).bodies file
selects = selects_text 5 (blobs_at 11) blobs_keyed select_body_text project shown body_in (λ params r. refl)

pub sure : (file : Bytes) → IsSure select_body_text (Text file ∷ [])
unfolding understood everything IsSure
sure file = ((omega arith, refl, refl, refl, readable_one 11 (is_param 1 0 ∷ []) project [] headings (Text file ∷ []) refl), refl)

-- the rows that it shows are those of records
pub records : (file : Bytes) (old new : State) (rows : List Row) → IsIndex old.now → Shown select_body_text (Text file ∷ []) old new rows
    → AllByRecursion IsStoredRow (old.now.trees 11) → AllByRecursion IsBodyRow rows
records = shows_text 5 (blobs_at 11) blobs_keyed select_body_text project shown IsStoredRow IsBodyRow (λ params r it. it.body)
