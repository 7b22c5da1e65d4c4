-- The JSON of a file, and the page by its rows.
use Rattle.index_pages.proofs.Words.{◌≡◌, ◌++◌, ℕ, Bool, true, false, ◌==◌, List, [], ◌∷◌, length, codes, refl, sym, ap, ◌∙◌, append_assoc}
use Rattle.index_pages.proofs.Words.{Option, Some, None, cond, flat_map, escape, escape_byte, Data, comma_if, compact_text, items_text}
use Rattle.index_pages.proofs.Words.{read_digest, text_of, Bytes, FileRow, NameRow, names_of, project_json, root_json, files_bottom}
use Rattle.index_pages.proofs.Words.{json_text, name_text, once, releases_text, with_release}
use Rattle.std.proofs.Common.{append-nil}
use Rattle.std.specs.Prelude.{decimal}
use Rattle.std.proofs.lemmas.List.Concat.{flat_map-append}
use Rattle.serde_json.proofs.OnLiterals.{serde_json_on_literals}
use Rattle.serde_json.specs.Data.{number, unsigned, string, object, member}
use Rattle.serde_json.specs.View.{items_of}
use Rattle.index_pages.specs.Json.{file_data, hashes, reason_data, url_of, yanked_member}
use Rattle.index_pages.specs.Parts.{file_front, file_text, files_top, json_rest, later_member}
use Rattle.index_pages.specs.Parts.{names_top, requires_text, yanked_text}
use Rattle.index_pages.proofs.EscapeLemmas.{digest-plain, escape-plain}

-- ---- the members of a file

file_by : (b : Bool) (file requires : Bytes) (hashed size url : Data) (yanked : Option Bytes)
    → compact_text (object (member (codes "filename") (string file) (member (codes "hashes") hashed
    (cond b (member (codes "size") size (member (codes "url") url (yanked_member yanked)))
    (member (codes "requires-python") (string requires) (member (codes "size") size (member (codes "url") url (yanked_member yanked))))))))
    ≡ codes "{\"filename\":" ++ (json_text file ++ (later_member (codes "hashes") hashed
    ++ (cond b [] (later_member (codes "requires-python") (string requires))
    ++ (later_member (codes "size") size ++ (later_member (codes "url") url ++ (yanked_text yanked ++ codes "}"))))))
unfolding json_text serde_json_on_literals
file_by true file requires hashed size url None = refl
file_by true file requires hashed size url (Some reason) = refl
file_by false file requires hashed size url None = refl
file_by false file requires hashed size url (Some reason) = refl

-- a file, member by member
pub file-members : (project : Bytes) (row : FileRow)
    → file_front row ++ (later_member (codes "size") (number (unsigned row.size))
    ++ (later_member (codes "url") (string (url_of project row.file)) ++ (yanked_text row.yanked ++ codes "}")))
    ≡ file_text project row
unfolding file_text file_data
file-members project row =
    let hashed = later_member (codes "hashes") (hashes row.digest) in
    let requires = requires_text row.requires_python in
    let url = later_member (codes "url") (string (url_of project row.file)) in
    let last = later_member (codes "size") (number (unsigned row.size)) ++ (url ++ (yanked_text row.yanked ++ codes "}")) in
    ap (λ x. codes "{\"filename\":" ++ x) (append_assoc (json_text row.file) (hashed ++ requires) last
    ∙ ap (λ x. json_text row.file ++ x) (append_assoc hashed requires last))
    ∙ sym (file_by (length row.requires_python == 0) row.file row.requires_python (hashes row.digest) (number (unsigned row.size))
    (string (url_of project row.file)) row.yanked)

-- the digits of a digest are no bytes to escape
pub hashes-text : (digest text : Bytes) → text ≡ text_of digest → read_digest text ≡ Some digest
    → codes ",\"hashes\":{\"sha256\":\"" ++ (text ++ codes "\"}") ≡ later_member (codes "hashes") (hashes digest)
unfolding serde_json_on_literals
hashes-text digest text is reads =
    let same : escape (text_of digest) ≡ text = ap escape (sym is) ∙ escape-plain text (digest-plain text digest reads) in
    ap (λ x. codes ",\"hashes\":{\"sha256\":\"" ++ x) (sym (append_assoc text (codes "\"") (codes "}")))
    ∙ ap (λ x. codes ",\"hashes\":{\"sha256\":\"" ++ ((x ++ codes "\"") ++ codes "}")) (sym same)

-- a text in quotes
pub json_text-is : (text : Bytes) → codes "\"" ++ (escape text ++ codes "\"") ≡ json_text text
unfolding json_text
json_text-is text = refl

pub requires-text : (requires : Bytes) → (length requires == 0) ≡ false
    → codes ",\"requires-python\":" ++ json_text requires ≡ requires_text requires
unfolding json_text serde_json_on_literals
requires-text requires some = rw some refl

pub reason-text : (reason : Bytes) → (length reason == 0) ≡ false → json_text reason ≡ compact_text (reason_data reason)
unfolding json_text
reason-text reason some = rw some refl

pub yanked-text : (reason : Bytes) → codes ",\"yanked\":" ++ compact_text (reason_data reason) ≡ yanked_text (Some reason)
unfolding serde_json_on_literals
yanked-text reason = refl

pub size-text : (size : ℕ) → codes ",\"size\":" ++ decimal size ≡ later_member (codes "size") (number (unsigned size))
unfolding serde_json_on_literals
size-text size = refl

path-quoted : (project file : Bytes) → project
    ++ (codes "/" ++ (file ++ codes "\"")) ≡ (project ++ (codes "/" ++ (file ++ []))) ++ codes "\""
path-quoted project file =
    sym (append_assoc project (codes "/" ++ (file ++ [])) (codes "\"") ∙ ap (λ x. project ++ (codes "/" ++ (x ++ codes "\"")))
    (append-nil file))

pub url-text : (project file : Bytes) → codes ",\"url\":\"/files/" ++ (escape project ++ (codes "/" ++ (escape file ++ codes "\"")))
    ≡ later_member (codes "url") (string (url_of project file))
unfolding serde_json_on_literals
url-text project file =
    let path : escape (project ++ (codes "/" ++ (file ++ []))) ≡ escape project ++ (codes "/" ++ (escape file ++ [])) =
    flat_map-append escape_byte project (codes "/" ++ (file ++ []))
    ∙ ap (λ x. escape project ++ (codes "/" ++ x)) (flat_map-append escape_byte file []) in
    ap (λ x. codes ",\"url\":\"/files/" ++ x) (path-quoted (escape project) (escape file))
    ∙ ap (λ x. codes ",\"url\":\"/files/" ++ (x ++ codes "\"")) (sym path)

-- ---- the page of a project

-- the rows and the parts round them make the page
pub json-whole : (project : Bytes) (rows : List FileRow) → json_rest project false [] rows ≡ project_json project rows
unfolding project_json files_top files_bottom json_text serde_json_on_literals
json-whole project rows = refl

-- a release's text is the next of those of the releases
pub releases-next : (text : Bytes) (is_later : Bool) (release : Bytes) (releases : List Bytes)
    → (text ++ (comma_if is_later ++ json_text release)) ++ releases_text true releases ≡ text
    ++ releases_text is_later (release ∷ releases)
unfolding json_text
releases-next text is_later release releases =
    let comma = comma_if is_later in
    append_assoc text (comma ++ json_text release) (releases_text true releases)
    ∙ ap (λ x. text ++ x) (append_assoc comma (json_text release) (releases_text true releases))

-- a row's text is the next of the page
pub json-next : (project : Bytes) (is_started : Bool) (held : List Bytes) (row : FileRow) (rows : List FileRow)
    → json_rest project is_started held (row ∷ rows)
    ≡ (once is_started files_top ++ (comma_if is_started ++ file_text project row))
    ++ json_rest project true (with_release held row.release) rows
unfolding file_text
json-next project is_started held row rows = simp append_assoc refl

-- ---- the page of the names

pub name_text-is : (shown : Bytes) → name_text shown ≡ codes "{\"name\":" ++ (json_text shown ++ codes "}")
unfolding name_text json_text serde_json_on_literals
name_text-is shown = refl

pub names-whole : (rows : List NameRow)
    → names_top ++ (items_text false (items_of (flat_map (λ row. names_of row.record) rows)) ++ codes "}") ≡ root_json rows
unfolding root_json names_top serde_json_on_literals
names-whole rows = refl
