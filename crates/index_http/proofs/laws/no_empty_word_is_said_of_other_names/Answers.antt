use Rattle.index_http.proofs.ApartReplies.{refutes_shown_others}
use Rattle.index_http.proofs.laws.no_empty_word_is_said_of_other_names.Goals as goal

pub returns : goal.returns
returns c = refutes_shown_others
