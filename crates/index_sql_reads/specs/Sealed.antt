-- A body with the digest that its file is bound to.
use Rattle.std.specs.Prelude.{◌≡◌, Option, Some, None, option_map, is_some, IsTrue, ⊤}
use Rattle.std.specs.FinMap.{get}
use Rattle.index_digest.specs.Digest.{sha256}
use Rattle.index_rules.specs.declared.records.FileRecord.{FileRecord}
use Rattle.index_rules.specs.Maps.{Bytes}
use Rattle.index_rules.specs.Tables.{Tables}

-- the digest that the file is bound to
abbrev pub digest_in : Tables → Bytes → Option Bytes
digest_in T file = option_map (λ (known : FileRecord). known.digest) (get T.files file)

-- a body, if there is one, has the digest of the file
abbrev pub IsBoundTo : Option Bytes → Option Bytes → Type 0
IsBoundTo digest None = ⊤
IsBoundTo digest (Some body) = digest ≡ Some (sha256 body)

-- a digest is declared for what is stored, if anything is
abbrev pub IsDeclared : Option Bytes → Option Bytes → Type 0
IsDeclared digest None = ⊤
IsDeclared digest (Some stored) = IsTrue (is_some digest)
