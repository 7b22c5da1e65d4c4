use Rattle.index_http.proofs.ApartReplies.{inputs_agree, replies_agree}
use Rattle.index_http.proofs.laws.replies_are_about_one_name.Goals as goal

pub returns-clause-messages : goal.returns-clause-messages
returns-clause-messages c = replies_agree

pub returns-clause-inputs : goal.returns-clause-inputs
returns-clause-inputs c = inputs_agree
