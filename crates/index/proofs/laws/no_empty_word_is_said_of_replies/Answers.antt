use Rattle.index.proofs.WrongMessages.{refutes_exchanges}
use Rattle.index.proofs.laws.no_empty_word_is_said_of_replies.Goals as goal

pub returns : goal.returns
returns g c = refutes_exchanges g.B.Books g.K.Sink
