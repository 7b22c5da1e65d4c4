use Rattle.index.proofs.WrongCalls.{refutes_calls, refutes_streams}
use Rattle.index.proofs.laws.no_empty_word_is_said_of_calls.Goals as goal

pub returns-clause-calls : goal.returns-clause-calls
returns-clause-calls g c = refutes_calls g.B.Books

pub returns-clause-streams : goal.returns-clause-streams
returns-clause-streams g c = refutes_streams g.S.Source g.K.Sink
