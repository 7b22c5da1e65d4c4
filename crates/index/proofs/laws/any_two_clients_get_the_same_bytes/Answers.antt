use Rattle.index.proofs.Words.{in_volume, in_files}
use Rattle.index.proofs.VolumeLemmas.{found_in_volume}
use Rattle.index.proofs.ChainLemmas.{found_in_files}
use Rattle.index.proofs.AgreeLemmas.{agree_through}
use Rattle.index.proofs.WrongBytes.{refutes_disagreement}
use Rattle.index.proofs.laws.any_two_clients_get_the_same_bytes.Goals as goal

pub returns-clause-agree : goal.returns-clause-agree
returns-clause-agree c = agree_through in_files found_in_files

pub returns-clause-volume : goal.returns-clause-volume
returns-clause-volume c = agree_through in_volume found_in_volume

pub returns-clause-other : goal.returns-clause-other
returns-clause-other c = refutes_disagreement
