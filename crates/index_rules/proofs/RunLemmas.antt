-- Calls in a row, and one more.
use Rattle.index_rules.proofs.Words.{◌≡◌, ◌∙◌, ℕ, List, [], ◌∷◌, ◌++◌, inl, inr, ap, subst, HasFailed, FailsAtMostOnce, Call, Answer}
use Rattle.index_rules.proofs.Words.{Tables, verdict_now, Answers, Runs, tables_after}
use Rattle.std.proofs.Common.{Contains}
use Rattle.std.proofs.lemmas.List.Elements.{Contains-push_cases}
use Rattle.index_rules.proofs.Counts.{NotFewer, HasFailed-before, HasFailed-after}

pub Runs-push : (T : Tables) (calls : List Call) (answers : List Answer) (T' : Tables) (call : Call) (answer : Answer) (T'' : Tables)
    → Runs T calls answers T' → Answers (verdict_now T' call) answer → T'' ≡ tables_after T' call answer
    → Runs T (calls ++ call ∷ []) (answers ++ answer ∷ []) T''
Runs-push T [] [] T' call answer T'' run is next =
    (subst (λ x. Answers (verdict_now x call) answer) run is, next ∙ ap (λ x. tables_after x call answer) run)
Runs-push T [] (b ∷ answers) T' call answer T'' run is next = absurd run
Runs-push T (d ∷ calls) [] T' call answer T'' run is next = absurd run
Runs-push T (d ∷ calls) (b ∷ answers) T' call answer T'' run is next =
    (run.0, Runs-push (tables_after T d b) calls answers T' call answer T'' run.1 is next)

-- one more answer: if it is the fault that is looked for, its call failed
pub HasFailed-push : (answers : List Answer) (answer fault : Answer) (first before after : ℕ) → NotFewer first before
    → FailsAtMostOnce before after
    → (Contains answers fault → HasFailed first before) → (answer ≡ fault → HasFailed before after)
    → Contains (answers ++ answer ∷ []) fault → HasFailed first after
HasFailed-push answers answer fault first before after counts next earlier last found =
    elim (Contains-push_cases answers answer fault found) [
      | inl there ↦ HasFailed-after first before after (earlier there) next
      | inr this ↦ HasFailed-before first before after counts next (last this)
    ]
