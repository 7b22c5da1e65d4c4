use Rattle.std.proofs.Common.{rules}
use Rattle.index_json.proofs.Asked.{request_says}
use Rattle.index_json.proofs.line.read_request.Goals as goal

pub returns-in-Ok-clause-keys : goal.returns-in-Ok-clause-keys
returns-in-Ok-clause-keys c = request_says _ _ c.in-Ok.ensures.0

pub returns-in-Err-NotARequest-clause-keys : goal.returns-in-Err-NotARequest-clause-keys
returns-in-Err-NotARequest-clause-keys c = request_says _ _ (search rules)
