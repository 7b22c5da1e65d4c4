use Rattle.index.proofs.ChainLemmas.{found_in_files}
use Rattle.index.proofs.VolumeLemmas.{found_in_volume}
use Rattle.index.proofs.Words.{in_files, in_volume}
use Rattle.index.proofs.WrongFound.{refutes_found}
use Rattle.index.proofs.laws.an_index_is_found_again.Goals as goal

pub returns-clause-files : goal.returns-clause-files
returns-clause-files c = found_in_files

pub returns-clause-volume : goal.returns-clause-volume
returns-clause-volume c = found_in_volume

pub returns-clause-other : goal.returns-clause-other
returns-clause-other c = (refutes_found in_files, refutes_found in_volume)
