use Rattle.index_http.proofs.HideLemmas.{hides_tokens, input_hides_tokens}
use Rattle.index_http.proofs.laws.replies_show_no_token.Goals as goal

pub returns-clause-messages : goal.returns-clause-messages
returns-clause-messages c = hides_tokens

pub returns-clause-inputs : goal.returns-clause-inputs
returns-clause-inputs c = input_hides_tokens
