-- What the faults print.
use Rattle.std.specs.Prelude.{ℕ, List, codes}
use Rattle.index_names.specs.declared.fault.NameFault.{NameFault}
use Rattle.index_names.specs.declared.fault.NameFault.TheVariants.{BadName, BadFileName, BadRelease}
use Rattle.index_names.specs.declared.fault.NameFault.TheVariants.{OutOfMemory}

-- what is wrong with a name
abbrev pub name_fault_text : NameFault → List ℕ
name_fault_text BadName = codes "not a project name"
name_fault_text BadFileName = codes "not a file name of a wheel or a source archive"
name_fault_text BadRelease = codes "not a version text"
name_fault_text OutOfMemory = codes "out of memory"
