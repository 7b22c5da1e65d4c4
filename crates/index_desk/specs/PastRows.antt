-- The rows that a history has: of the held names, and of the undeleted files of a held name.
use Rattle.std.specs.Prelude.{◌≡◌, true, false, List, [], Option, Some, None, map}
use Rattle.std.specs.Option.{option_map_or}
use Rattle.index_names.specs.FileName.{project_of, release_of}
use Rattle.index_rules.specs.declared.records.NameRecord.TheVariants.{Held}
use Rattle.index_rules.specs.declared.rows.FileRow.{FileRow}
use Rattle.index_rules.specs.declared.rows.NameRow.{NameRow}
use Rattle.index_rules.specs.Maps.{Bytes}
use Rattle.index_rules.specs.History.{History}
use Rattle.index_rules.specs.PastNames.{is_held_now, state_after, yank_after}
use Rattle.index_rules.specs.PastFiles.{first_upload_after, is_charged_after, requires_after}
use Rattle.index_rules.specs.PastFiles.{size_after}
use Rattle.index_rules.specs.StandsFor.{project_after}
use Rattle.index_desk.specs.Lists.{AreThose}

-- ---- names

-- the row of a held name
abbrev pub held_row_after : History → Bytes → NameRow
held_row_after h n = record { name = n; «record» = Held (project_after h n) }

-- the rows of the held names
abbrev pub AreHeldRowsAfter : History → List NameRow → Type 0
AreHeldRowsAfter h rows =
    (names : List Bytes) × AreThose (λ n. is_held_now (state_after h n)) names
    × (rows ≡ map (held_row_after h) names)

-- ---- files

-- the digest of a file's first upload, which is the one that was declared (FIPS 180-4)
abbrev pub digest_after : History → Bytes → Bytes
digest_after h f = option_map_or (λ digest_and_size. digest_and_size.0) (first_upload_after h f) []

-- the row of a file: the digest and size of its first upload, the `Requires-Python` of its last,
-- and the yank of its release (PEP 592)
abbrev pub file_row_after : History → Bytes → FileRow
file_row_after h f = record {
  file = f;
  release = release_of f;
  digest = digest_after h f;
  size = size_after h f;
  requires_python = requires_after h f;
  yanked = yank_after h (project_of f) (release_of f);
}

-- the rows of the undeleted files of a name
abbrev pub AreFileRowsAfter : History → Bytes → List FileRow → Type 0
AreFileRowsAfter h n rows =
    (files : List Bytes) × AreThose (is_charged_after h n) files
    × (rows ≡ map (file_row_after h) files)

-- the rows of a held name's undeleted files, or none if the name is not held
abbrev pub AreProjectRowsAfter : History → Bytes → Option (List FileRow) → Type 0
AreProjectRowsAfter h n None = is_held_now (state_after h n) ≡ false
AreProjectRowsAfter h n (Some rows) =
    (is_held_now (state_after h n) ≡ true) × AreFileRowsAfter h n rows
