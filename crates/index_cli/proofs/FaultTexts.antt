-- A store that is honest still, or the text of a fault.
use Rattle.index_cli.proofs.Words.{◌≡◌, ◌⊎◌, ℕ, inl, inr, refl, List, Some, Answer, Accepted, Already, Refused, Fault, Call, Tables}
use Rattle.index_cli.proofs.Words.{by_tables, answer_text_of, TextAnswersParsedLine, IsFaultText}
use Rattle.index_desk.specs.Crashes.{Lasts}
use Rattle.index_json.specs.declared.line.Line.TheVariants as line

-- what is told of a fault
pub honest_or_mapped : {H F P Q : Type 0} → H ⊎ (F × P) → (P → Q) → H ⊎ (F × Q)
honest_or_mapped (inl honest) f = inl honest
honest_or_mapped (inr (fault, told)) f = inr (fault, f told)

-- a call after which the store is not shown to be honest was answered by a fault
pub call_lasts : (H H' : Type 0) (T : Tables) (call : Call) (answer : Answer) (text : List ℕ) → text ≡ answer_text_of answer
    → Lasts answer H H' → H
    → H' ⊎ (IsFaultText text × TextAnswersParsedLine by_tables (Some (line.Call call)) T text T)
call_lasts H H' T call Accepted text is lasts honest = inl lasts
call_lasts H H' T call Already text is lasts honest = inl (lasts honest)
call_lasts H H' T call (Refused refusal) text is lasts honest = inl (lasts honest)
call_lasts H H' T call (Fault fault) text is lasts honest = inr ((fault, is), (Fault fault, is, tt, refl))
