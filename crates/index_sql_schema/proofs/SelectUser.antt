-- SELECT FROM users by the user: the record.
use Rattle.index_sql_schema.proofs.Words.{◌≡◌, ℕ, List, [], ◌∷◌, codes, slice_get, option_map, refl, arith, get, everything, Text, Row}
use Rattle.index_sql_schema.proofs.Words.{Term, col, understood, State, Shown, Bytes, users_at, user_in, tables_in, IsIndex, AllByRecursion}
use Rattle.index_sql_schema.proofs.Words.{IsAccountRow, IsUserRow, IsSure}
use Rattle.index_sql_schema.specs.StatementTexts.{select_user_text}
use Rattle.index_sql_schema.proofs.QueryShapes.{is_param}
use Rattle.index_sql_schema.proofs.TableLemmas.{users_keyed}
use Rattle.index_sql_schema.proofs.LookupLemmas.{Selects, selects_text, shows_text}
use Rattle.index_sql_schema.proofs.SureLemmas.{readable_one}
use Rattle.index_sql_schema.proofs.ShownRecords.{user_shown}

abbrev project : List Term
project = col 1 0 ∷ col 1 1 ∷ col 1 2 ∷ col 1 3 ∷ []

abbrev headings : List (List ℕ)
headings = codes "rowid" ∷ codes "user" ∷ codes "office" ∷ codes "token" ∷ []

pub shown : Selects (users_at 1) select_user_text (is_param 1 0 ∷ []) project
unfolding understood everything
shown = record { names = headings; compiled = refl; is_plain = (refl, refl); unlisted = refl }

pub selects : (user : Bytes) (old new : State) (rows : List Row) → IsIndex old.now → Shown select_user_text (Text user ∷ []) old new rows
    → option_map user_in (slice_get rows 0) ≡ get (tables_in old.now.trees).users user
selects = selects_text 1 (users_at 1) users_keyed select_user_text project shown user_in (λ params r. refl)

pub sure : (user : Bytes) → IsSure select_user_text (Text user ∷ [])
unfolding understood everything IsSure
sure user = ((omega arith, refl, refl, refl, readable_one 1 (is_param 1 0 ∷ []) project [] headings (Text user ∷ []) refl), refl)

-- the rows that it shows are those of records
pub records : (user : Bytes) (old new : State) (rows : List Row) → IsIndex old.now → Shown select_user_text (Text user ∷ []) old new rows
    → AllByRecursion IsAccountRow (old.now.trees 1) → AllByRecursion IsUserRow rows
records = shows_text 1 (users_at 1) users_keyed select_user_text project shown IsAccountRow IsUserRow
    (λ params r it. user_shown r it.account)
