use Rattle.index_http.proofs.HideLemmas.{refutes_shown_tokens}
use Rattle.index_http.proofs.laws.no_empty_word_is_said_of_tokens.Goals as goal

pub returns : goal.returns
returns c = refutes_shown_tokens
