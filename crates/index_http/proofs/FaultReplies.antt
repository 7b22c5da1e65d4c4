-- The text of a reply with another status is not that of the reply to a fault.
use Rattle.index_http.proofs.Words.{◌≡◌, ◌∙◌, ◌+◌, ℕ, Bool, true, false, List, [], ◌∷◌, ◌++◌, refl, sym, ap, arith, Fault, Store, Bytes}
use Rattle.index_http.proofs.Words.{IsFaultReply, Reply, answer_reply, head_text, reply_head, reply_text}
use Rattle.std.proofs.Common.{◌/◌, drop}
use Rattle.index_rules.specs.declared.answer.Answer.TheVariants as answer
use Rattle.index_rules.specs.declared.answer.Fault.TheVariants.{OutOfMemory}

abbrev pub first_of : List ℕ → ℕ
first_of [] = 0
first_of (x ∷ xs) = x

-- the first digit of the status, in the text of a reply or at its front
digit_in : (to_head : Bool) (reply : Reply) (more : Bytes) → first_of (drop 9 (reply_text to_head reply ++ more)) ≡ 48 + reply.status / 100
unfolding reply_head head_text
digit_in to_head reply more = refl

digit_of : (to_head : Bool) (reply : Reply) → first_of (drop 9 (reply_text to_head reply)) ≡ 48 + reply.status / 100
unfolding reply_head head_text
digit_of to_head reply = refl

fault_status : (by_put : Bool) (fault : Fault) → (answer_reply by_put (answer.Fault fault)).status / 100 ≡ 5
unfolding answer_reply
fault_status true OutOfMemory = refl
fault_status true Store = refl
fault_status false OutOfMemory = refl
fault_status false Store = refl

-- whatever is behind it
pub no_fault_reply : (to_head : Bool) (reply : Reply) (more : Bytes) → (¬ (reply.status / 100 ≡ 5))
    → ¬ IsFaultReply (reply_text to_head reply ++ more)
no_fault_reply to_head reply more other (is_head, by_put, fault, is) =
    let five = fault_status by_put fault in
    let same : 48 + reply.status / 100 ≡ 48 + (answer_reply by_put (answer.Fault fault)).status / 100 =
    sym (digit_in to_head reply more) ∙ ap (λ (it : List ℕ). first_of (drop 9 it)) is
    ∙ digit_of is_head (answer_reply by_put (answer.Fault fault)) in
    other (omega (arith, five, same))
