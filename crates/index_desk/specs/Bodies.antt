-- The bytes of a file.
use Rattle.std.specs.Prelude.{◌≡◌, Option, Some, None, ⊤}
use Rattle.std.specs.FinMap.{get}
use Rattle.index_rules.specs.declared.records.FileRecord.{FileRecord}
use Rattle.index_rules.specs.Maps.{Bytes}
use Rattle.index_rules.specs.Sound.{IsBodyOf}
use Rattle.index_rules.specs.Tables.{Tables}

-- the bytes, if any, have the size and the digest that the file is bound to
abbrev pub AreBytesOf : Tables → Bytes → Option Bytes → Type 0
AreBytesOf T file None = ⊤
AreBytesOf T file (Some body) =
    (known : FileRecord) × (get T.files file ≡ Some known) × IsBodyOf known body
