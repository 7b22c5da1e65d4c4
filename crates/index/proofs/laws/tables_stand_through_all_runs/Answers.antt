use Rattle.index.proofs.Words.{in_volume, in_files}
use Rattle.index.proofs.VolumeLemmas.{found_in_volume}
use Rattle.index.proofs.ChainLemmas.{found_in_files, stand_through}
use Rattle.index.proofs.laws.tables_stand_through_all_runs.Goals as goal

pub returns-clause-files : goal.returns-clause-files
returns-clause-files c = stand_through in_files found_in_files

pub returns-clause-volume : goal.returns-clause-volume
returns-clause-volume c = stand_through in_volume found_in_volume
