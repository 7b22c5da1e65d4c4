-- The standing of a name.
use Rattle.std.specs.Prelude.{◌≡◌, List, Option, Some, None}
use Rattle.std.specs.FinMap.{get}
use Rattle.index_rules.specs.declared.records.NameRecord.{NameRecord}
use Rattle.index_rules.specs.declared.records.NameRecord.TheVariants.{Held, Prohibited}
use Rattle.index_rules.specs.Projects.{Project}
use Rattle.index_rules.specs.declared.records.CaseRecord.{CaseRecord}
use Rattle.index_rules.specs.Maps.{Bytes}
use Rattle.index_rules.specs.Tables.{Tables, owners_in}
use Rattle.index_rules.specs.History.{History}
use Rattle.index_rules.specs.PastNames.{state_after, owns_after}
use Rattle.index_rules.specs.PastNames as past
use Rattle.index_rules.specs.StandsFor.{case_record_after, project_after}
use Rattle.index_desk.specs.Lists.{AreThose}
use Rattle.index_rules.specs.declared.standing.Standing.{Standing}
use Rattle.index_rules.specs.declared.standing.Standing.TheVariants as standing

-- the standing of a held name, with its record, its owners and its open case
abbrev pub held_with : Bytes → Project → List Bytes → Option CaseRecord → Standing
held_with name project owners case =
    standing.Held (record { name = name; project = project; owners = owners; case = case })

-- the standing of a name with this record
abbrev pub standing_of_record : Tables → Bytes → Option NameRecord → Standing
standing_of_record T name None = standing.Free name
standing_of_record T name (Some Prohibited) = standing.Prohibited name
standing_of_record T name (Some (Held project)) =
    held_with name project (owners_in T name) (get T.cases name)

-- the standing of a name in the tables
abbrev pub standing_in : Tables → Bytes → Standing
standing_in T name = standing_of_record T name (get T.names name)

-- ---- after a history

-- the owners of a name, each once, in byte order
abbrev pub AreOwnersAfter : History → Bytes → List Bytes → Type 0
AreOwnersAfter h name users = AreThose (owns_after h name) users

-- the standing of a name after a history
abbrev pub IsStandingAfter : History → Bytes → Standing → Type 0
IsStandingAfter h name (standing.Free of) = (of ≡ name) × (state_after h name ≡ past.Free)
IsStandingAfter h name (standing.Prohibited of) =
    (of ≡ name) × (state_after h name ≡ past.Prohibited)
IsStandingAfter h name (standing.Held held) =
    (held.name ≡ name) × (state_after h name ≡ past.Held)
    × (held.project ≡ project_after h name) × AreOwnersAfter h name held.owners
    × (held.case ≡ case_record_after h name)
