-- The tables: finite maps of records, so that each key stands once.
use Rattle.std.specs.Prelude.{List, map, filter}
use Rattle.std.specs.FinMap.{keys}
use Rattle.index_rules.specs.declared.records.UserRecord.{UserRecord}
use Rattle.index_rules.specs.declared.records.NameRecord.{NameRecord}
use Rattle.index_rules.specs.declared.records.FileRecord.{FileRecord}
use Rattle.index_rules.specs.declared.records.CaseRecord.{CaseRecord}
use Rattle.index_rules.specs.Maps.{Bytes, Map, PairMap, Pairs, TextSet, same}

-- all that the index keeps
pub record Tables : Type 0 where
  -- by user id
  pub users : Map UserRecord
  -- by normal name: the held names and the prohibited ones
  pub names : Map NameRecord
  -- each name with each user who owns it
  pub owners : Pairs
  -- by file name: each file that was ever accepted
  pub files : Map FileRecord
  -- the bytes of the undeleted files
  pub bodies : Map Bytes
  -- each name with each of its yanked releases, and the reason
  pub yanks : PairMap Bytes
  -- by name: the open cases
  pub cases : Map CaseRecord
  -- the names of the banned files
  pub bans : TextSet

-- the owners of a name, in byte order
abbrev pub owners_in : Tables → Bytes → List Bytes
owners_in T name = map (λ pair. pair.1) (filter (λ pair. same name pair.0) (keys T.owners))
