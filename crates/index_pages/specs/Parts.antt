-- The text that is still to be written of each page: by whether it is in JSON, whether a row came,
-- the releases so far, and the rows to come.
use Rattle.std.specs.Prelude.{ℕ, Bool, true, false, List, [], ◌∷◌, ◌++◌, map, codes, Option, Some}
use Rattle.std.specs.Prelude.{None, if◌then◌else◌, ◌==◌, length}
use Rattle.std.specs.List.{flat_map}
use Rattle.json.specs.Print.{quoted}
use Rattle.serde_json.specs.Data.{Data, number, string, unsigned}
use Rattle.serde_json.specs.View.{items_of}
use Rattle.serde_json.specs.Written.{compact_text, comma_if, items_text}
use Rattle.index_rules.specs.Maps.{Bytes}
use Rattle.index_rules.specs.declared.records.NameRecord.{NameRecord}
use Rattle.index_rules.specs.declared.records.NameRecord.TheVariants.{Held, Prohibited}
use Rattle.index_rules.specs.declared.rows.FileRow.{FileRow}
use Rattle.index_rules.specs.declared.rows.NameRow.{NameRow}
use Rattle.index_pages.specs.Html.{bottom, file_anchor, name_anchor, project_top, root_top}
use Rattle.index_pages.specs.Json.{file_data, hashes, name_data, reason_data, url_of}
use Rattle.index_pages.specs.Versions.{with_releases}

-- a text before the first row
abbrev pub once : Bool → Bytes → Bytes
once is_started top = if is_started then [] else top

-- ---- a project's page

-- the rest of a project's page in HTML
abbrev pub html_rest : Bytes → Bool → List FileRow → Bytes
html_rest project is_started rows =
    once is_started (project_top project) ++ (flat_map (file_anchor project) rows ++ bottom)

-- the text of a file
unfoldable pub file_text : Bytes → FileRow → Bytes
file_text project row = compact_text (file_data project row)

-- a text in quotes
unfoldable pub json_text : Bytes → Bytes
json_text text = compact_text (string text)

-- a member of an object, behind another one
abbrev pub later_member : Bytes → Data → Bytes
later_member key value = 44 ∷ (quoted key ++ 58 ∷ compact_text value)

-- the member with the digest
abbrev pub hashes_text : Bytes → Bytes
hashes_text digest = later_member (codes "hashes") (hashes digest)

-- the member with the size
abbrev pub size_text : ℕ → Bytes
size_text size = later_member (codes "size") (number (unsigned size))

-- the member with the URL of a file
abbrev pub url_text : Bytes → Bytes → Bytes
url_text project file = later_member (codes "url") (string (url_of project file))

-- the member with the Python versions, or nothing if none were declared
abbrev pub requires_text : Bytes → Bytes
requires_text requires =
    if length requires == 0 then [] else later_member (codes "requires-python") (string requires)

-- a file up to its size
abbrev pub file_front : FileRow → Bytes
file_front row =
    codes "{\"filename\":"
    ++ (json_text row.file ++ (hashes_text row.digest ++ requires_text row.requires_python))

-- the member with the reason, or nothing if the file is not yanked
abbrev pub yanked_text : Option Bytes → Bytes
yanked_text None = []
yanked_text (Some reason) = later_member (codes "yanked") (reason_data reason)

-- the text before the files
unfoldable pub files_top : Bytes
files_top = codes "{\"files\":["

-- the text of a file, behind the text before it
abbrev pub file_line : Bytes → Bool → FileRow → Bytes
file_line project is_started row =
    once is_started files_top ++ (comma_if is_started ++ file_text project row)

-- the releases that are not listed yet, and the bracket behind them
abbrev pub releases_text : Bool → List Bytes → Bytes
releases_text is_later releases = items_text is_later (items_of (map string releases))

-- the text behind the files and their bracket
unfoldable pub files_bottom : Bytes → List Bytes → Bytes
files_bottom project releases =
    codes ",\"meta\":{\"api-version\":\"1.1\"},\"name\":"
    ++ (json_text project
    ++ (codes ",\"versions\":[" ++ (releases_text false releases ++ codes "}")))

-- the rest of a project's page in JSON, which lists the releases behind the files
abbrev pub json_rest : Bytes → Bool → List Bytes → List FileRow → Bytes
json_rest project is_started releases rows =
    once is_started files_top
    ++ (items_text is_started (items_of (map (file_data project) rows))
    ++ files_bottom project (with_releases releases rows))

-- the rest of a project's page, in HTML or JSON
abbrev pub project_rest : Bool → Bytes → Bool → List Bytes → List FileRow → Bytes
project_rest as_json project is_started releases rows =
    if as_json
    then json_rest project is_started releases rows
    else html_rest project is_started rows

-- ---- the root page

-- the text before the names in JSON
unfoldable pub names_top : Bytes
names_top = codes "{\"meta\":{\"api-version\":\"1.1\"},\"projects\":["

-- the text before the names, or nothing if it was written
abbrev pub root_start : Bool → Bool → Bytes
root_start as_json is_started = once is_started (if as_json then names_top else root_top)

-- the text of a name
unfoldable pub name_text : Bytes → Bytes
name_text shown = compact_text (name_data shown)

-- the text of a held name, behind the names before it
abbrev pub name_line : Bool → Bool → Bytes → Bytes → Bytes
name_line as_json is_started name shown =
    if as_json then comma_if is_started ++ name_text shown else name_anchor name shown

-- the text behind the names
abbrev pub root_bottom : Bool → Bytes
root_bottom as_json = if as_json then codes "]}" else bottom

-- writes a held name, and skips a prohibited one
abbrev pub root_step : Bool → Bool → Bytes → NameRecord → (Bool → Bytes) → Bytes
root_step as_json is_started name (Held project) later =
    (root_start as_json is_started ++ name_line as_json is_started name project.shown) ++ later true
root_step as_json is_started name Prohibited later = later is_started

-- the rest of the root page, name by name
abbrev pub root_rest : Bool → Bool → List NameRow → Bytes
root_rest as_json is_started [] = root_start as_json is_started ++ root_bottom as_json
root_rest as_json is_started (row ∷ rows) =
    root_step as_json is_started row.name row.record
    (λ is_started. root_rest as_json is_started rows)
