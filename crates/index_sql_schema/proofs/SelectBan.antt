-- SELECT FROM bans: whether the file is banned.
use Rattle.index_sql_schema.proofs.Words.{◌≡◌, ℕ, List, [], ◌∷◌, codes, slice_get, option_map, refl, arith, get, everything, Text, Row}
use Rattle.index_sql_schema.proofs.Words.{Term, col, understood, State, Shown, Bytes, bans_at, nothing_in, tables_in, IsIndex, IsSure}
use Rattle.index_sql_schema.specs.StatementTexts.{select_ban_text}
use Rattle.index_sql_schema.proofs.QueryShapes.{is_param}
use Rattle.index_sql_schema.proofs.TableLemmas.{bans_keyed}
use Rattle.index_sql_schema.proofs.LookupLemmas.{Selects, selects_text}
use Rattle.index_sql_schema.proofs.SureLemmas.{readable_one}

abbrev project : List Term
project = col 1 0 ∷ col 1 1 ∷ []

abbrev headings : List (List ℕ)
headings = codes "rowid" ∷ codes "file" ∷ []

pub shown : Selects (bans_at 17) select_ban_text (is_param 1 0 ∷ []) project
unfolding understood everything
shown = record { names = headings; compiled = refl; is_plain = (refl, refl); unlisted = refl }

pub selects : (file : Bytes) (old new : State) (rows : List Row) → IsIndex old.now → Shown select_ban_text (Text file ∷ []) old new rows
    → option_map nothing_in (slice_get rows 0) ≡ get (tables_in old.now.trees).bans file
selects = selects_text 8 (bans_at 17) bans_keyed select_ban_text project shown nothing_in (λ params r. refl)

pub sure : (file : Bytes) → IsSure select_ban_text (Text file ∷ [])
unfolding understood everything IsSure
sure file = ((omega arith, refl, refl, refl, readable_one 17 (is_param 1 0 ∷ []) project [] headings (Text file ∷ []) refl), refl)
