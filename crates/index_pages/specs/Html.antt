-- The pages in HTML (PEP 503, "Specification"), of version 1.0 (PEP 629, "Specification").
use Rattle.std.specs.Prelude.{ℕ, List, [], ◌∷◌, ◌++◌, codes, Option, Some, None, if◌then◌else◌}
use Rattle.std.specs.Prelude.{◌==◌, length}
use Rattle.std.specs.List.{flat_map, concat}
use Rattle.std.specs.Borrow.{Bor}
use Rattle.std.specs.Str.{byte}
use Rattle.index_digest.specs.Digest.{text_of}
use Rattle.index_rules.specs.Maps.{Bytes}
use Rattle.index_rules.specs.declared.records.NameRecord.{NameRecord}
use Rattle.index_rules.specs.declared.records.NameRecord.TheVariants.{Held, Prohibited}
use Rattle.index_rules.specs.declared.rows.FileRow.{FileRow}
use Rattle.index_rules.specs.declared.rows.NameRow.{NameRow}

-- the bytes of pieces, one after another
abbrev pub text_of_pieces : List (Bor Bytes) → Bytes
text_of_pieces pieces = flat_map (λ piece. piece.now) pieces

-- a byte of a text or of an attribute's value (PEP 503: `<` and `>` have to be encoded)
abbrev pub escape_byte : ℕ → Bytes
escape_byte c =
    if c == byte "&" then codes "&amp;"
    else if c == byte "<" then codes "&lt;"
    else if c == byte ">" then codes "&gt;"
    else if c == 34 then codes "&quot;"
    else c ∷ []

-- a text with these four bytes escaped
unfoldable pub escape : Bytes → Bytes
escape text = flat_map escape_byte text

-- an attribute with its value
abbrev pub attribute : Bytes → Bytes → Bytes
attribute name value = concat (codes " " ∷ name ∷ codes "=\"" ∷ escape value ∷ codes "\"" ∷ [])

-- the Python versions of a file (PEP 503), or nothing if none were declared
abbrev pub requires_attribute : Bytes → Bytes
requires_attribute requires =
    if length requires == 0 then [] else attribute (codes "data-requires-python") requires

-- the reason for which a file is yanked, which may be empty, or nothing if it is not yanked (PEP
-- 592, "Specification")
abbrev pub yanked_attribute : Option Bytes → Bytes
yanked_attribute None = []
yanked_attribute (Some reason) = attribute (codes "data-yanked") reason

-- the beginning of an anchor, with the reference to a file and its digest (PEP 503)
abbrev pub reference : Bytes → Bytes → Bytes → Bytes
reference project file digest =
    concat (codes "<a href=\"/files/" ∷ project ∷ codes "/" ∷ file ∷ codes "#sha256="
    ∷ text_of digest ∷ codes "\"" ∷ [])

-- the line of a file
unfoldable pub file_anchor : Bytes → FileRow → Bytes
file_anchor project row = concat (
    reference project row.file row.digest
    ∷ requires_attribute row.requires_python ∷ yanked_attribute row.yanked
    ∷ codes ">" ∷ row.file ∷ codes "</a><br>\n" ∷ [])

-- the text before a page's title
unfoldable pub head : Bytes
head =
    codes "<!DOCTYPE html>\n<html>\n<head>\n<meta charset=\"utf-8\">\n"
    ++ codes "<meta name=\"pypi:repository-version\" content=\"1.0\">\n<title>"

-- the text before the files
unfoldable pub project_top : Bytes → Bytes
project_top project =
    concat (head ∷ codes "Links for " ∷ project
    ∷ codes "</title>\n</head>\n<body>\n<h1>Links for " ∷ project ∷ codes "</h1>\n" ∷ [])

-- the text behind the rows
abbrev pub bottom : Bytes
bottom = codes "</body>\n</html>\n"

-- the page of a project's files
unfoldable pub project_html : Bytes → List FileRow → Bytes
project_html project rows = project_top project ++ (flat_map (file_anchor project) rows ++ bottom)

-- the line of a held name
unfoldable pub name_anchor : Bytes → Bytes → Bytes
name_anchor name shown =
    concat (codes "<a href=\"/simple/" ∷ name ∷ codes "/\">" ∷ escape shown
    ∷ codes "</a><br>\n" ∷ [])

-- the line of a held name, or nothing for a prohibited one
abbrev pub anchor_of_name : Bytes → NameRecord → Bytes
anchor_of_name name (Held project) = name_anchor name project.shown
anchor_of_name name Prohibited = []

-- the text before the names
unfoldable pub root_top : Bytes
root_top = concat (head ∷ codes "Simple index</title>\n</head>\n<body>\n" ∷ [])

-- the root page
unfoldable pub root_html : List NameRow → Bytes
root_html rows = root_top ++ (flat_map (λ row. anchor_of_name row.name row.record) rows ++ bottom)
