-- Errors of the database as faults.
use Rattle.sqlite.specs.declared.error.Error.{Error}
use Rattle.sqlite.specs.declared.error.Error.TheVariants.{SqliteFailure}
use Rattle.sqlite.specs.declared.error.ErrorCode.TheVariants as code
use Rattle.index_rules.specs.declared.answer.Fault.{Fault}
use Rattle.index_rules.specs.declared.answer.Fault.TheVariants as fault

-- an error as a fault: `OutOfMemory` if memory ran out, else `Store`
abbrev pub fault_by : Error → Fault
fault_by (SqliteFailure code.OutOfMemory) = fault.OutOfMemory
fault_by _ = fault.Store
