-- SELECT FROM yanks by name and release: the reason for which the release is yanked.
use Rattle.index_sql_schema.proofs.Words.{◌≡◌, ℕ, List, [], ◌∷◌, codes, slice_get, option_map, refl, arith, get, everything, Text, Row}
use Rattle.index_sql_schema.proofs.Words.{Term, col, understood, State, Shown, Bytes, yanks_at, reason_in, tables_in, IsIndex}
use Rattle.index_sql_schema.proofs.Words.{AllByRecursion, IsYankedRow, IsSure}
use Rattle.index_sql_schema.specs.StatementTexts.{select_yank_text}
use Rattle.index_sql_schema.proofs.QueryShapes.{is_param}
use Rattle.index_sql_schema.proofs.TableLemmas.{yanks_keyed}
use Rattle.index_sql_schema.proofs.LookupLemmas.{Selects, selects_pair, shows_pair}
use Rattle.index_sql_schema.specs.RecordRows.{IsYankRow}
use Rattle.index_sql_schema.proofs.SureLemmas.{readable_one}

abbrev project : List Term
project = col 1 0 ∷ col 1 1 ∷ col 1 2 ∷ col 1 3 ∷ []

abbrev headings : List (List ℕ)
headings = codes "rowid" ∷ codes "name" ∷ codes "rel" ∷ codes "reason" ∷ []

pub shown : Selects (yanks_at 13) select_yank_text (is_param 1 0 ∷ is_param 2 1 ∷ []) project
unfolding understood everything
shown = record { names = headings; compiled = refl; is_plain = (refl, refl); unlisted = refl }

pub selects : (name release : Bytes) (old new : State) (rows : List Row) → IsIndex old.now
    → Shown select_yank_text (Text name ∷ Text release ∷ []) old new rows
    → option_map reason_in (slice_get rows 0) ≡ get (tables_in old.now.trees).yanks (name, release)
selects name release = selects_pair 6 (yanks_at 13) yanks_keyed select_yank_text project shown reason_in (λ params r. refl) (name, release)

pub sure : (name release : Bytes) → IsSure select_yank_text (Text name ∷ Text release ∷ [])
unfolding understood everything IsSure
sure name release = (
  (
    omega arith,
    refl,
    refl,
    refl,
    readable_one 13 (is_param 1 0 ∷ is_param 2 1 ∷ []) project [] headings (Text name ∷ Text release ∷ []) refl,
  ),
  refl,
)

-- the rows that it shows are those of records
pub records : (name release : Bytes) (old new : State) (rows : List Row) → IsIndex old.now
    → Shown select_yank_text (Text name ∷ Text release ∷ []) old new rows
    → AllByRecursion IsYankedRow (old.now.trees 13) → AllByRecursion IsYankRow rows
records name release = shows_pair 6 (yanks_at 13) yanks_keyed select_yank_text project shown IsYankedRow IsYankRow
    (λ params r it. it.reason) (name, release)
