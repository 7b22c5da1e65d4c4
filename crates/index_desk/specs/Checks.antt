-- Names whose charge is wrong.
use Rattle.std.specs.Prelude.{ℕ, Bool, not, ◌==◌, count_by}
use Rattle.index_rules.specs.declared.records.NameRecord.{NameRecord}
use Rattle.index_rules.specs.declared.records.NameRecord.TheVariants.{Held, Prohibited}
use Rattle.index_rules.specs.declared.rows.NameRow.{NameRow}
use Rattle.index_rules.specs.Tables.{Tables}
use Rattle.index_rules.specs.TableRows.{name_rows_in}
use Rattle.index_rules.specs.Sound.{charge_in}

-- the charge of a name; 0 if it is prohibited
abbrev pub charge_of : NameRecord → ℕ
charge_of (Held project) = project.charge
charge_of Prohibited = 0

-- the charge of a name is not the sum of the sizes of its undeleted files
abbrev pub is_charged_wrong_in : Tables → NameRow → Bool
is_charged_wrong_in T row = not (charge_of row.record == charge_in T row.name)

-- the number of names whose charge is wrong
abbrev pub wrong_charges_in : Tables → ℕ
wrong_charges_in T = count_by (is_charged_wrong_in T) (name_rows_in T)
