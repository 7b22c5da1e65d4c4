-- Kinds of changes.
use Rattle.std.specs.Prelude.{Bool, true, false}
use Rattle.index_rules.specs.declared.change.Change.{Change}
use Rattle.index_rules.specs.declared.change.Change.TheVariants.{Upload, Delete, BanFile}

-- whether a change is of a file
abbrev pub is_of_file : Change → Bool
is_of_file (Upload name project file known body ends_case) = true
is_of_file (Delete name project file known) = true
is_of_file (BanFile name project file known) = true
is_of_file change = false
