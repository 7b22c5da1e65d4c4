-- The files of a name.
use Rattle.std.specs.Prelude.{Bool, not}
use Rattle.std.specs.List.{list_any}
use Rattle.std.specs.FinMap.{entries, retain_keys}
use Rattle.index_rules.specs.declared.records.FileRecord.{FileRecord}
use Rattle.index_rules.specs.Effect.{is_file_of}
use Rattle.index_rules.specs.Facts.{is_undeleted_of_release}
use Rattle.index_rules.specs.Maps.{Bytes, Map}

-- whether one of these files is an undeleted one of this name and release
abbrev pub has_undeleted_of : Bytes → Bytes → Map FileRecord → Bool
has_undeleted_of name release files =
    list_any (λ file. is_undeleted_of_release name release file.1) (entries files)

-- the bodies without those of the files of this name
abbrev pub without_bodies_of : Bytes → Map FileRecord → Map Bytes → Map Bytes
without_bodies_of name files bodies = retain_keys bodies (λ file. not (is_file_of files name file))
