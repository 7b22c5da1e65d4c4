use Rattle.index.proofs.Words.{to_sink}
use Rattle.index.proofs.OneFileLemmas.{ends_as_on_files, looks_elsewhere}
use Rattle.index.proofs.UnusedLemmas.{unused_stays}
use Rattle.index.proofs.laws.an_index_without_a_volume_is_worked_on_as_before.Goals as goal

pub returns-clause-none : goal.returns-clause-none
returns-clause-none g c = looks_elsewhere g.D.Disk g.E.Disk

pub returns-clause-same : goal.returns-clause-same
returns-clause-same g c = λ before after. ends_as_on_files g.D.Disk g.E.Disk (to_sink g.K.Sink before after)

pub returns-clause-stays : goal.returns-clause-stays
returns-clause-stays g c = unused_stays
