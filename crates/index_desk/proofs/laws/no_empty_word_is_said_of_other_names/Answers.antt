use Rattle.index_desk.proofs.WrongOthers.{refutes_others}
use Rattle.index_desk.proofs.laws.no_empty_word_is_said_of_other_names.Goals as goal

pub returns : goal.returns
returns c = refutes_others
