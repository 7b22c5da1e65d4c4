use Rattle.index.proofs.Words.{in_volume, in_files}
use Rattle.index.proofs.ChainLemmas.{found_in_files}
use Rattle.index.proofs.GoesOnLemmas.{there_by_run}
use Rattle.index.proofs.RefutedLemmas.{created_run_found_none, created_run_leaves_an_index, index_is_not_none, work_run_leaves_an_index}
use Rattle.index.proofs.VolumeLemmas.{found_in_volume}
use Rattle.index.proofs.laws.no_run_loses_an_index.Goals as goal

pub returns-clause-seen : goal.returns-clause-seen
returns-clause-seen c = index_is_not_none

pub returns-clause-stays : goal.returns-clause-stays
returns-clause-stays c = there_by_run in_files found_in_files

pub returns-clause-volume : goal.returns-clause-volume
returns-clause-volume c = there_by_run in_volume found_in_volume

pub returns-clause-created : goal.returns-clause-created
returns-clause-created c = created_run_leaves_an_index

pub returns-clause-anew : goal.returns-clause-anew
returns-clause-anew c = created_run_found_none

pub returns-clause-cut : goal.returns-clause-cut
returns-clause-cut c = work_run_leaves_an_index
