-- What computes the text of an answer.
use Rattle.std.specs.Prelude.{⊤}
use Rattle.std.specs.Fmt.{digits}
use Rattle.serde_json.proofs.OnLiterals.{serde_json_on_literals}
use Rattle.index_json.specs.AnswerText.{answer_text_of, bad_body_text, message_text_of}

-- what the texts of answers unfold to be computed
unfoldable pub answers_on_literals : ⊤
unfolding digits serde_json_on_literals answer_text_of bad_body_text message_text_of
answers_on_literals = tt
