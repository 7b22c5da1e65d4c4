-- Held names.
use Rattle.std.specs.Prelude.{ℕ, ◌≤◌, Option, None}
use Rattle.index_rules.specs.Maps.{Bytes}

-- the record of a held name
pub record Project : Type 0 where
  -- the shown name: the spelling of the last claim
  pub shown : Bytes
  -- the quota: how many bytes the undeleted files may have
  pub quota : ℕ
  -- the charge: how many bytes the undeleted files have
  pub charge : ℕ
  -- how many undeleted files the name has
  pub undeleted : ℕ
  -- the greatest moment of an upload since the last claim, if there was one
  pub last_upload : Option ℕ

-- the quota that a claim brings: one gibibyte
abbrev pub first_quota : ℕ
first_quota = 1073741824

-- the most bytes of a quota
abbrev pub largest_quota : ℕ
largest_quota = 1099511627776

-- the most undeleted files of a name
abbrev pub most_files : ℕ
most_files = 9223372036854775807

-- the charge is at most the quota, and neither the quota nor the count of undeleted files is above
-- its limit
pub record FitsProject (quota charge undeleted : ℕ) : Type 0 where
  pub charge_fits : charge ≤ quota
  pub quota_fits : quota ≤ largest_quota
  pub undeleted_fit : undeleted ≤ most_files

-- a project of these parts
abbrev pub project_from : Bytes → ℕ → ℕ → ℕ → Option ℕ → Project
project_from shown quota charge undeleted last_upload = record {
  shown = shown;
  quota = quota;
  charge = charge;
  undeleted = undeleted;
  last_upload = last_upload;
}

-- the project of a name that is claimed in this spelling
abbrev pub new_project : Bytes → Project
new_project shown = record {
  shown = shown;
  quota = first_quota;
  charge = 0;
  undeleted = 0;
  last_upload = None;
}
