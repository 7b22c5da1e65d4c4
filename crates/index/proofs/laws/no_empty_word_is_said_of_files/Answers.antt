use Rattle.index.proofs.WrongFiles.{refutes_files}
use Rattle.index.proofs.laws.no_empty_word_is_said_of_files.Goals as goal

pub returns : goal.returns
returns g c = refutes_files g.D.Disk g.K.Sink
