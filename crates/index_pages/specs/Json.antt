-- The pages in JSON (PEP 691, "JSON Serialization"), of version 1.1 (PEP 700, "Specification"):
-- compact, with keys in byte order.
use Rattle.std.specs.Prelude.{true, List, [], ◌∷◌, map, codes, Option, Some, None, if◌then◌else◌}
use Rattle.std.specs.Prelude.{◌==◌, length}
use Rattle.std.specs.List.{flat_map, concat}
use Rattle.serde_json.specs.Data.{Data, boolean, number, unsigned, string, array, object, Members}
use Rattle.serde_json.specs.Data.{no_members, member}
use Rattle.serde_json.specs.View.{items_of}
use Rattle.serde_json.specs.Written.{compact_text}
use Rattle.index_digest.specs.Digest.{text_of}
use Rattle.index_rules.specs.Maps.{Bytes}
use Rattle.index_rules.specs.declared.records.NameRecord.{NameRecord}
use Rattle.index_rules.specs.declared.records.NameRecord.TheVariants.{Held, Prohibited}
use Rattle.index_rules.specs.declared.rows.FileRow.{FileRow}
use Rattle.index_rules.specs.declared.rows.NameRow.{NameRow}
use Rattle.index_pages.specs.Versions.{versions_of}

-- the version of the interface (PEP 629, "Specification")
abbrev pub meta : Data
meta = object (member (codes "api-version") (string (codes "1.1")) no_members)

-- the digest of a file, at the name of its algorithm
abbrev pub hashes : Bytes → Data
hashes digest = object (member (codes "sha256") (string (text_of digest)) no_members)

-- the member with the Python versions of a file, or nothing if none were declared
abbrev pub requires_member : Bytes → Members → Members
requires_member requires later =
    if length requires == 0 then later else member (codes "requires-python") (string requires) later

-- the reason for which a file is yanked, or true if the reason is empty
abbrev pub reason_data : Bytes → Data
reason_data reason = if length reason == 0 then boolean true else string reason

-- the member with that reason, or nothing if the file is not yanked
abbrev pub yanked_member : Option Bytes → Members
yanked_member None = no_members
yanked_member (Some reason) = member (codes "yanked") (reason_data reason) no_members

-- the URL of a file
abbrev pub url_of : Bytes → Bytes → Bytes
url_of project file = concat (codes "/files/" ∷ project ∷ codes "/" ∷ file ∷ [])

-- a file, with its size in bytes
unfoldable pub file_data : Bytes → FileRow → Data
file_data project row = object
    (member (codes "filename") (string row.file)
    (member (codes "hashes") (hashes row.digest)
    (requires_member row.requires_python
    (member (codes "size") (number (unsigned row.size))
    (member (codes "url") (string (url_of project row.file))
    (yanked_member row.yanked))))))

-- the page of a project's files
unfoldable pub project_json : Bytes → List FileRow → Bytes
project_json project rows = compact_text (object
    (member (codes "files") (array (items_of (map (file_data project) rows)))
    (member (codes "meta") meta
    (member (codes "name") (string project)
    (member (codes "versions") (array (items_of (map string (versions_of rows))))
    no_members)))))

-- a name, in the spelling of its last claim
abbrev pub name_data : Bytes → Data
name_data shown = object (member (codes "name") (string shown) no_members)

-- a held name, or nothing for a prohibited one
abbrev pub names_of : NameRecord → List Data
names_of (Held project) = name_data project.shown ∷ []
names_of Prohibited = []

-- the root page
unfoldable pub root_json : List NameRow → Bytes
root_json rows = compact_text (object
    (member (codes "meta") meta
    (member (codes "projects") (array (items_of (flat_map (λ row. names_of row.record) rows)))
    no_members)))
