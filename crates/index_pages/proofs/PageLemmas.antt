-- The pages by what is still to be written of them.
use Rattle.index_pages.proofs.Words.{◌≡◌, ◌∙◌, ◌++◌, ◌∷◌, Bool, true, false, List, [], sym, ap, refl, append_assoc, flat_map, Data}
use Rattle.index_pages.proofs.Words.{compact_text, items_text, comma_if, Bytes, FileRow, NameRow, bottom, name_anchor, names_of}
use Rattle.index_pages.proofs.Words.{project_json, root_json, name_text}
use Rattle.std.specs.Prelude.{codes, if◌then◌else◌}
use Rattle.serde_json.specs.View.{items_of}
use Rattle.index_rules.specs.declared.records.NameRecord.{NameRecord}
use Rattle.index_rules.specs.declared.records.NameRecord.TheVariants.{Held, Prohibited}
use Rattle.index_pages.specs.Html.{anchor_of_name, project_html, root_html}
use Rattle.index_pages.specs.Json.{name_data}
use Rattle.index_pages.specs.Parts.{project_rest, root_rest, root_start, root_step}
use Rattle.index_pages.proofs.JsonLemmas.{json-whole, names-whole}

-- ---- the page of a project

-- a page that has not begun is still to be written whole
pub project-whole : (as_json : Bool) (project : Bytes) (rows : List FileRow)
    → project_rest as_json project false [] rows ≡ (if as_json then project_json project rows else project_html project rows)
unfolding project_html
project-whole true project rows = json-whole project rows
project-whole false project rows = refl

-- ---- the page of the names

-- the lines of the names, and the text behind them
abbrev pub html_lines : List NameRow → Bytes
html_lines rows = flat_map (λ row. anchor_of_name row.name row.record) rows ++ bottom

abbrev pub json_lines_of : Bool → List Data → Bytes
json_lines_of is_started names = items_text is_started (items_of names) ++ codes "}"

abbrev pub json_lines : Bool → List NameRow → Bytes
json_lines is_started rows = json_lines_of is_started (flat_map (λ row. names_of row.record) rows)

html-by : (is_started : Bool) (name : Bytes) (kept : NameRecord) (rows : List NameRow)
    → ((b : Bool) → root_rest false b rows ≡ root_start false b ++ html_lines rows)
    → root_step false is_started name kept (λ b. root_rest false b rows)
    ≡ root_start false is_started ++ ((anchor_of_name name kept ++ flat_map (λ row. anchor_of_name row.name row.record) rows) ++ bottom)
html-by is_started name (Held project) rows later =
    let line = name_anchor name project.shown in
    let lines = flat_map (λ row. anchor_of_name row.name row.record) rows in
    ap (λ x. (root_start false is_started ++ line) ++ x) (later true)
    ∙ append_assoc (root_start false is_started) line (lines ++ bottom)
    ∙ ap (λ x. root_start false is_started ++ x) (sym (append_assoc line lines bottom))
html-by is_started name Prohibited rows later = later is_started

html-lines : (is_started : Bool) (rows : List NameRow) → root_rest false is_started rows ≡ root_start false is_started ++ html_lines rows
html-lines is_started [] = refl
html-lines is_started (row ∷ rows) = html-by is_started row.name row.record rows (λ b. html-lines b rows)

moved : (a b c d : Bytes) → (a ++ b) ++ (c ++ d) ≡ (a ++ (b ++ c)) ++ d
moved a b c d = simp append_assoc refl

json-by : (is_started : Bool) (name : Bytes) (kept : NameRecord) (rows : List NameRow)
    → ((b : Bool) → root_rest true b rows ≡ root_start true b ++ json_lines b rows)
    → root_step true is_started name kept (λ b. root_rest true b rows)
    ≡ root_start true is_started ++ json_lines_of is_started (names_of kept ++ flat_map (λ row. names_of row.record) rows)
unfolding name_text
json-by is_started name (Held project) rows later =
    let comma = comma_if is_started in
    let text = compact_text (name_data project.shown) in
    let items = items_text true (items_of (flat_map (λ row. names_of row.record) rows)) in
    ap (λ x. (root_start true is_started ++ (comma ++ text)) ++ x) (later true)
    ∙ append_assoc (root_start true is_started) (comma ++ text) (items ++ codes "}")
    ∙ ap (λ x. root_start true is_started ++ x) (moved comma text items (codes "}"))
json-by is_started name Prohibited rows later = later is_started

json-lines : (is_started : Bool) (rows : List NameRow)
    → root_rest true is_started rows ≡ root_start true is_started ++ json_lines is_started rows
json-lines is_started [] = refl
json-lines is_started (row ∷ rows) = json-by is_started row.name row.record rows (λ b. json-lines b rows)

-- a page that has not begun is still to be written whole
pub root-whole : (as_json : Bool) (rows : List NameRow)
    → root_rest as_json false rows ≡ (if as_json then root_json rows else root_html rows)
unfolding root_html
root-whole true rows = json-lines false rows ∙ names-whole rows
root-whole false rows = html-lines false rows
