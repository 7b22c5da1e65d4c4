use Rattle.index_cli.proofs.Words.{AddsBehind}
use Rattle.index_cli.proofs.listening.accept_waiting.Given as goal

-- those that came so far stand behind those that waited
abbrev pub invariant-tries : goal.invariant-tries
invariant-tries l = AddsBehind l.most l.fn.waiting.items l.waiting.items
