-- What the faults print.
use Rattle.std.specs.Prelude.{ℕ, List, codes}
use Rattle.index_rules.specs.declared.answer.Fault.{Fault}
use Rattle.index_rules.specs.declared.answer.Fault.TheVariants as fault
use Rattle.index_rules.specs.declared.open.OpenFault.{OpenFault}
use Rattle.index_rules.specs.declared.open.OpenFault.TheVariants as open_fault
use Rattle.index_rules.specs.declared.user.UserFault.{UserFault}
use Rattle.index_rules.specs.declared.user.UserFault.TheVariants as user_fault

-- each fault prints its name
abbrev pub fault_text : Fault → List ℕ
fault_text fault.OutOfMemory = codes "OutOfMemory"
fault_text fault.Store = codes "Store"

-- what is wrong with a user id
abbrev pub user_fault_text : UserFault → List ℕ
user_fault_text user_fault.BadUser = codes "not a user id"
user_fault_text user_fault.OutOfMemory = codes "out of memory"

-- why no tables were opened
abbrev pub open_fault_text : OpenFault → List ℕ
open_fault_text open_fault.BadFirstUser = codes "BadFirstUser"
open_fault_text open_fault.NotEmpty = codes "NotEmpty"
open_fault_text open_fault.NotAnIndex = codes "NotAnIndex"
open_fault_text open_fault.OtherVersion = codes "OtherVersion"
open_fault_text open_fault.OutOfMemory = codes "OutOfMemory"
open_fault_text open_fault.Store = codes "Store"
