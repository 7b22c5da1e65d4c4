-- The page of some rows is no front of that with a row more: so what may still be either of them is not all of it.
use Rattle.index_http.proofs.Words.{◌≡◌, ◌∙◌, ◌++◌, ◌∷◌, Bool, true, false, List, [], ap, sym, append_assoc, None, append_cancel_left}
use Rattle.index_http.proofs.Words.{flat_map, if◌then◌else◌, Bytes, NameRecord, Held, Prohibited, FileRow, NameRow, IsOpen}
use Rattle.std.proofs.lemmas.List.Concat.{flat_map-append}
use Rattle.std.specs.Prelude.{◌==◌}
use Rattle.index_pages.specs.Html.{bottom, file_anchor, name_anchor, project_top}
use Rattle.index_pages.specs.Parts.{file_text, files_bottom, files_top, html_rest, json_rest, name_line, once, project_rest, root_bottom}
use Rattle.index_pages.specs.Parts.{root_rest, root_start, root_step}
use Rattle.index_pages.specs.Versions.{with_release, with_releases}
use Rattle.index_pages.proofs.JsonLemmas.{file-members, json-next, name_text-is}

-- ---- texts that differ early

-- it begins with the bracket behind a list
abbrev is_bracket : Bytes → Bool
is_bracket [] = false
is_bracket (byte ∷ rest) = byte == 93

-- its second byte is the slash of a closing tag
abbrev is_closing : Bytes → Bool
is_closing [] = false
is_closing (byte ∷ []) = false
is_closing (byte ∷ next ∷ rest) = next == 47

-- what two texts begin with is left out
behind : (front a b left : Bytes) → front ++ a ≡ (front ++ b) ++ left → a ≡ b ++ left
behind front a b left e = append_cancel_left front a (b ++ left) (e ∙ append_assoc front b left)

-- ---- a project's page

abbrev a_file : FileRow
a_file = record { file = []; release = []; digest = []; size = 0; requires_python = []; yanked = None }

anchor_is_no_bottom : (project more left : Bytes) → (file_anchor project a_file ++ []) ++ more ≡ bottom ++ left → ⊥
unfolding file_anchor
anchor_is_no_bottom project more left e = let no : false ≡ true = ap is_closing e in cc no

html_grows : (project : Bytes) (is_started : Bool) (rows : List FileRow) (left : Bytes)
    → html_rest project is_started (rows ++ a_file ∷ []) ≡ html_rest project is_started rows ++ left → ⊥
html_grows project is_started rows left e =
    let top = once is_started (project_top project) in
    let lines = flat_map (file_anchor project) rows in
    let last = file_anchor project a_file ++ [] in
    let all : flat_map (file_anchor project) (rows ++ a_file ∷ []) ≡ lines ++ last =
    flat_map-append (file_anchor project) rows (a_file ∷ []) in
    let text : lines ++ (last ++ bottom) ≡ (lines ++ bottom) ++ left =
    sym (append_assoc lines last bottom) ∙ ap (λ x. x ++ bottom) (sym all) ∙ behind top _ (lines ++ bottom) left e in
    anchor_is_no_bottom project bottom left (behind lines (last ++ bottom) bottom left text)

-- a comma, if something stands before it
abbrev comma : Bool → Bytes
comma is_later = if is_later then 44 ∷ [] else []

file_is_no_bracket : (project : Bytes) (is_started : Bool) (more left : Bytes)
    → (comma is_started ++ file_text project a_file) ++ more ≡ 93 ∷ left → ⊥
file_is_no_bracket project true more left e = let no : false ≡ true = ap is_bracket e in cc no
file_is_no_bracket project false more left e =
    let no : false ≡ true = ap (λ x. is_bracket (x ++ more)) (file-members project a_file) ∙ ap is_bracket e in cc no

json_grows : (project : Bytes) (is_started : Bool) (held : List Bytes) (rows : List FileRow) (left : Bytes)
    → json_rest project is_started held (rows ++ a_file ∷ []) ≡ json_rest project is_started held rows ++ left → ⊥
json_grows project is_started held [] left e =
    let top = once is_started files_top in
    let line = comma is_started ++ file_text project a_file in
    let later = json_rest project true (with_release held a_file.release) [] in
    let text : top ++ (line ++ later) ≡ (top ++ (93 ∷ files_bottom project (with_releases held []))) ++ left =
    sym (append_assoc top line later) ∙ sym (json-next project is_started held a_file []) ∙ e in
    file_is_no_bracket project is_started later _ (behind top (line ++ later) (93 ∷ files_bottom project (with_releases held [])) left text)
json_grows project is_started held (row ∷ rows) left e =
    let line = once is_started files_top ++ (comma is_started ++ file_text project row) in
    let rest = json_rest project true (with_release held row.release) in
    let text : line ++ rest (rows ++ a_file ∷ []) ≡ (line ++ rest rows) ++ left =
    sym (json-next project is_started held row (rows ++ a_file ∷ [])) ∙ e
    ∙ ap (λ x. x ++ left) (json-next project is_started held row rows) in
    json_grows project true (with_release held row.release) rows left (behind line _ (rest rows) left text)

pub project_open : (as_json : Bool) (project : Bytes) (is_started : Bool) (held : List Bytes)
    → IsOpen (project_rest as_json project is_started held)
project_open true project is_started held = record { row = a_file; grows = json_grows project is_started held }
project_open false project is_started held = record { row = a_file; grows = html_grows project is_started }

-- ---- the page of the names

abbrev a_name : NameRow
a_name = record { name = []; «record» = Held (record { shown = []; quota = 0; charge = 0; undeleted = 0; last_upload = None }) }

name_is_no_bottom : (as_json is_started : Bool) (more left : Bytes)
    → name_line as_json is_started [] [] ++ more ≡ root_bottom as_json ++ left → ⊥
unfolding name_anchor
name_is_no_bottom true true more left e = let no : false ≡ true = ap is_bracket e in cc no
name_is_no_bottom true false more left e =
    let no : false ≡ true = ap (λ x. is_bracket (x ++ more)) (sym (name_text-is [])) ∙ ap is_bracket e in cc no
name_is_no_bottom false is_started more left e = let no : false ≡ true = ap is_closing e in cc no

step_grows : (as_json is_started : Bool) (name : Bytes) (known : NameRecord) (longer shorter : Bool → Bytes) (left : Bytes)
    → ((b : Bool) → longer b ≡ shorter b ++ left → ⊥)
    → root_step as_json is_started name known longer ≡ root_step as_json is_started name known shorter ++ left → ⊥
step_grows as_json is_started name (Held project) longer shorter left later e =
    later true (behind (root_start as_json is_started ++ name_line as_json is_started name project.shown) (longer true) (shorter true)
    left e)
step_grows as_json is_started name Prohibited longer shorter left later e = later is_started e

root_grows : (as_json is_started : Bool) (rows : List NameRow) (left : Bytes)
    → root_rest as_json is_started (rows ++ a_name ∷ []) ≡ root_rest as_json is_started rows ++ left → ⊥
root_grows as_json is_started [] left e =
    let top = root_start as_json is_started in
    let line = name_line as_json is_started [] [] in
    let text : top ++ (line ++ root_rest as_json true []) ≡ (top ++ root_bottom as_json) ++ left =
    sym (append_assoc top line (root_rest as_json true [])) ∙ e in
    name_is_no_bottom as_json is_started (root_rest as_json true []) left
    (behind top (line ++ root_rest as_json true []) (root_bottom as_json) left text)
root_grows as_json is_started (row ∷ rows) left e =
    step_grows as_json is_started row.name row.record (λ b. root_rest as_json b (rows ++ a_name ∷ [])) (λ b. root_rest as_json b rows) left
    (λ b. root_grows as_json b rows left) e

pub root_open : (as_json is_started : Bool) → IsOpen (root_rest as_json is_started)
root_open as_json is_started = record { row = a_name; grows = root_grows as_json is_started }
