use Rattle.index_desk.proofs.OnPageLemmas.{refutes_other_bytes}
use Rattle.index_desk.proofs.laws.no_empty_word_is_said_of_served_files.Goals as goal

pub returns : goal.returns
returns c = refutes_other_bytes
