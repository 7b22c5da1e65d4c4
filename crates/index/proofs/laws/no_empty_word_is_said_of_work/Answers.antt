use Rattle.index.proofs.WrongLemmas.{refutes_tasks}
use Rattle.index.proofs.laws.no_empty_word_is_said_of_work.Goals as goal

pub returns : goal.returns
returns c = refutes_tasks
