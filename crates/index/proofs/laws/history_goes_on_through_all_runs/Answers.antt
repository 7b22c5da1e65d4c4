use Rattle.index.proofs.Words.{in_volume, in_files}
use Rattle.index.proofs.VolumeLemmas.{found_in_volume}
use Rattle.index.proofs.ChainLemmas.{found_in_files}
use Rattle.index.proofs.GoesOnLemmas.{goes_on, stand_on}
use Rattle.index.proofs.laws.history_goes_on_through_all_runs.Goals as goal

pub returns-clause-on : goal.returns-clause-on
returns-clause-on c = goes_on in_files found_in_files

pub returns-clause-found : goal.returns-clause-found
returns-clause-found c = stand_on in_files found_in_files

pub returns-clause-volume : goal.returns-clause-volume
returns-clause-volume c = goes_on in_volume found_in_volume
