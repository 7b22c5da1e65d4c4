-- A head with another status is another head, and the reply to a fault is no reply to a bad head.
use Rattle.index.proofs.Words.{◌≡◌, ◌∙◌, ◌<◌, ℕ, Bool, List, ◌++◌, take, drop, refl, sym, ap, arith, BadHead, head_text, message_reply}
use Rattle.index.proofs.Words.{reply_head, reply_text, Fault, Bytes}
use Rattle.index_cli.proofs.FilesServed.{digits_of, same_digits}
use Rattle.index_http.specs.Replies.{answer_reply}
use Rattle.index_http.proofs.FaultReplies.{no_fault_reply as other_reply}
use Rattle.index_rules.specs.declared.answer.Answer.TheVariants as answer

-- what is behind the version of a head
abbrev behind_version : List ℕ → List ℕ
behind_version text = drop 9 text

digits_in : (status : ℕ) (fields : Bytes) (size : ℕ) → take 3 (behind_version (reply_head status fields size)) ≡ digits_of status
unfolding reply_head head_text
digits_in status fields size = refl

pub same_status : (status other : ℕ) (fields lines : Bytes) (size more : ℕ) → status < 1000 → other < 1000
    → reply_head other lines more ≡ reply_head status fields size → other ≡ status
same_status status other fields lines size more low below same = same_digits status other low below
    (sym (digits_in other lines more) ∙ ap (λ (it : List ℕ). take 3 (behind_version it)) same ∙ digits_in status fields size)

bad_head_status : (message_reply BadHead).status ≡ 400
unfolding message_reply
bad_head_status = refl

-- no reply to a fault begins with the whole reply to a bad head
pub no_fault_reply : (to_head is_head by_put : Bool) (fault : Fault) (more : Bytes)
    → ¬ (reply_text is_head (answer_reply by_put (answer.Fault fault)) ≡ reply_text to_head (message_reply BadHead) ++ more)
no_fault_reply to_head is_head by_put fault more same =
    other_reply to_head (message_reply BadHead) more (λ five. omega (arith, five, bad_head_status)) (is_head, by_put, fault, sym same)
