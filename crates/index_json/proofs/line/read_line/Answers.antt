use Rattle.std.proofs.Common.{rules}
use Rattle.index_json.proofs.Asked.{line_says}
use Rattle.index_json.proofs.line.read_line.Goals as goal

pub returns-in-Ok-clause-keys : goal.returns-in-Ok-clause-keys
returns-in-Ok-clause-keys c = line_says _ _ c.in-Ok.ensures.0

pub returns-in-Err-NotARequest-clause-keys : goal.returns-in-Err-NotARequest-clause-keys
returns-in-Err-NotARequest-clause-keys c = line_says _ _ (search rules)
