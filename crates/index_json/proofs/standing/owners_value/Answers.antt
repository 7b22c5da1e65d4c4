use Rattle.std.proofs.Common.{arith}
use Rattle.std.proofs.lemmas.Grind.{common_steps}
use Rattle.serde_json.proofs.Views.{view-Array}
use Rattle.index_json.proofs.standing.owners_value.Goals as goal

pub returns : goal.returns
returns c = grind (arith, common_steps, view-Array)
