-- SELECT FROM names .. ORDER BY name: the names with their records, in byte order.
use Rattle.index_sql_schema.proofs.Words.{◌≡◌, ◌==◌, Bool, true, false, not, cond, ℕ, List, [], ◌∷◌, codes, filter, map, Some, refl, sym}
use Rattle.index_sql_schema.proofs.Words.{ap, subst, ◌∙◌, IsPermutation, arith, AllByRecursion, list_all, entries, nat_list_cmp_total}
use Rattle.index_sql_schema.proofs.Words.{exact_bytes, everything, Null, Text, Row, column, Term, col, eval_all, holds, end, overlay, Ne}
use Rattle.index_sql_schema.proofs.Words.{Select, understood, reads_listing, State, Shown, IsPlain, command_of, reads_as, all_weaker}
use Rattle.index_sql_schema.proofs.Words.{all_of, map-map, filter-map, filter_all, last_term, NameRecord, Bytes, index_schema, names_at}
use Rattle.index_sql_schema.proofs.Words.{tables_in, text_key, name_in, number_in, IsIndex, IsSure, IsNamedRow}
use Rattle.index_rules.specs.declared.records.NameRecord.TheVariants.{Held, Prohibited}
use Rattle.index_rules.specs.declared.rows.NameRow.{NameRow}
use Rattle.index_rules.specs.Projects.{Project}
use Rattle.index_rules.specs.TableRows.{name_row, name_rows_in, held_rows_in, is_held_row}
use Rattle.index_rules.specs.Verdict.{is_held}
use Rattle.index_sql_schema.proofs.EntryLemmas.{sorted_entries}
use Rattle.index_sql_schema.specs.Records.{name_by, project_in}
use Rattle.index_sql_schema.specs.ShownRows.{name_row_in}
use Rattle.index_sql_schema.specs.StatementTexts.{select_names_text, select_held_text}
use Rattle.index_sql_schema.proofs.ShownRecords.{name_shown}
use Rattle.index_sql_schema.proofs.SelectLemmas.{read_all}
use Rattle.index_sql_schema.proofs.SureLemmas.{readable_one}
use Rattle.index_sql_schema.proofs.QueryShapes.{plan, from_one}
use Rattle.index_sql_schema.proofs.KeyLemmas.{IsText, IsNumber, wholes}
use Rattle.index_sql_schema.proofs.NumberLemmas.{is_number, other_test}
use Rattle.index_sql_schema.proofs.TableLemmas.{names_keyed}
use Rattle.index_sql_schema.proofs.OrderLemmas.{by_column, listed}

abbrev project : List Term
project = col 1 0 ∷ col 1 1 ∷ col 1 2 ∷ col 1 3 ∷ col 1 4 ∷ col 1 5 ∷ col 1 6 ∷ col 1 7 ∷ []

abbrev headings : List (List ℕ)
headings = codes "rowid" ∷ codes "name" ∷ codes "state" ∷ codes "shown" ∷ codes "quota" ∷ codes "charged" ∷ codes "live" ∷ codes
    "last_upload" ∷ []

-- what is to be shown of the text of a query for the names that pass
pub record Lists (text : List ℕ) (tests : List Term) : Type 0 where
  pub compiled : command_of (understood index_schema text) ≡ Select (plan (from_one 4 tests project (by_column 1))) headings
  pub is_plain : IsPlain (understood index_schema text)
  pub unlisted : reads_listing index_schema text ≡ false

pub all_shown : Lists select_names_text []
unfolding understood everything
all_shown = record { compiled = refl; is_plain = (refl, refl); unlisted = refl }

pub held_shown : Lists select_held_text (is_number Ne 2 2 ∷ [])
unfolding understood everything
held_shown = record { compiled = refl; is_plain = (refl, refl); unlisted = refl }

lists : (text : List ℕ) (tests : List Term) → Lists text tests → (passes : Bytes × NameRecord → Bool) (old new : State) (rows : List Row)
    → IsIndex old.now
    → AllByRecursion (λ r. list_all (holds ([] ∷ r ∷ [])) tests ≡ passes (text_key r, name_in r)) (old.now.trees 4)
    → Shown text [] old new rows → map name_row_in rows ≡ map name_row (filter passes (entries (tables_in old.now.trees).names))
lists text tests it passes old new rows h same shown =
    let rs = old.now.trees 4 in
    let answer = reads_as text [] old new index_schema h.schema _ it.compiled it.is_plain it.unlisted rows shown in
    let keyed = all_weaker (IsText 1) (λ r. eval_all (col 1 1 ∷ []) ([] ∷ r ∷ []) ≡ Text (text_key r) ∷ []) (λ r t. ap (λ v. v ∷ []) t) rs
    (names_keyed.texts old.now h) in
    let found = listed 4 end tests project 1 (overlay old.now.trees []) [] (λ r. [] ∷ r ∷ []) (λ r. passes (text_key r, name_in r))
    (all_of _ (λ r. refl) rs) same name_row_in (λ (row : NameRow). row.name) keyed rows (answer.answer Null) in
    let order = subst (λ l. IsPermutation l (map name_row_in rows))
    (sym (ap (map name_row) (filter-map passes (λ r. (text_key r, name_in r)) rs) ∙ map-map name_row (λ r. (text_key r, name_in r)) _))
    found.0 in
    sorted_entries nat_list_cmp_total exact_bytes text_key name_in passes name_row (λ (row : NameRow). row.name) (λ e. refl) rs
    (map name_row_in rows) (names_keyed.apart old.now h) order found.1

pub sure : IsSure select_names_text []
unfolding understood everything IsSure
sure = ((omega arith, refl, refl, refl, readable_one 4 [] project (by_column 1) headings [] refl), refl)

-- the rows that it shows are those of records
pub records : (old new : State) (rows : List Row) → IsIndex old.now → Shown select_names_text [] old new rows
    → AllByRecursion IsNamedRow (old.now.trees 4) → AllByRecursion IsNamedRow rows
records old new rows h shown all =
    let rs = old.now.trees 4 in
    let answer = reads_as select_names_text [] old new index_schema h.schema _ all_shown.compiled all_shown.is_plain all_shown.unlisted rows
    shown in
    read_all 4 end [] project (by_column 1) (overlay old.now.trees []) [] (λ r. [] ∷ r ∷ []) (λ r. true) (all_of _ (λ r. refl) rs)
    (all_of _ (λ r. refl) rs) IsNamedRow IsNamedRow (λ r it. record { name = it.name; found = name_shown r it.found }) rows
    (answer.answer Null) all

pub selects_names : (old new : State) (rows : List Row) → IsIndex old.now → Shown select_names_text [] old new rows
    → map name_row_in rows ≡ name_rows_in (tables_in old.now.trees)
selects_names old new rows h shown =
    lists select_names_text [] all_shown (λ e. true) old new rows h (all_of _ (λ r. refl) (old.now.trees 4)) shown
    ∙ ap (map name_row) (filter_all (λ e. true) (entries (tables_in old.now.trees).names) (all_of _ (λ e. refl) _))

-- a name is held exactly if its state is not that of a prohibited one
held_is : (state : ℕ) (project : Project) → not (state == 2) ≡ is_held (Some (name_by state project))
held_is state project = elim (state == 2) as (λ b. not b ≡ is_held (Some (cond b Prohibited (Held project)))) [ true ↦ refl | false ↦ refl ]

pub selects_held : (old new : State) (rows : List Row) → IsIndex old.now → Shown select_held_text [] old new rows
    → map name_row_in rows ≡ held_rows_in (tables_in old.now.trees)
selects_held old new rows h shown =
    let states = wholes 2 (names_at 4) refl old.now h refl 1 _ refl refl refl refl in
    let same = all_weaker (IsNumber 2) (λ r. list_all (holds ([] ∷ r ∷ [])) (is_number Ne 2 2 ∷ []) ≡ is_held (Some (name_in r)))
    (λ r is. last_term (other_test [] 2 1 r is) ∙ held_is (number_in (column r 2)) (project_in r)) (old.now.trees 4) states in
    lists select_held_text (is_number Ne 2 2 ∷ []) held_shown (λ e. is_held (Some e.1)) old new rows h same shown
    ∙ sym (filter-map is_held_row name_row (entries (tables_in old.now.trees).names))
