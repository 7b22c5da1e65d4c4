-- The tally of attempts grows with each.
use Rattle.std.proofs.Common.{◌≡◌, ℕ, ◌+◌, ◌||◌, Bool, true, false, if◌then◌else◌, List, [], ◌∷◌, length, reverse, Option, Some, None, refl}
use Rattle.std.proofs.Common.{add_comm, ap, ◌∙◌, arith}
use Rattle.std.specs.Prelude.{count_by}
use Rattle.std.specs.List.{find, list_any}
use Rattle.std.specs.Option.{option_map, option_or}
use Rattle.std.proofs.lemmas.List.{reverse-append}
use Rattle.std.proofs.lemmas.List.Folds.{find-append}
use Rattle.std.proofs.lemmas.List.Sums.{sum_by-cons}
use Rattle.index_retention.specs.Attempts.{Attempt, first_sent, is_of_means, tally_with, tally_of}
use Rattle.index_retention.specs.declared.attempts.Means.TheVariants.{Profile, Author, Pages}

-- the first sent stays, unless there was none
first_sent-cons : (attempt : Attempt) (attempts : List Attempt)
    → first_sent (attempt ∷ attempts) ≡ option_or (first_sent attempts) (if attempt.sent then Some attempt else None)
first_sent-cons attempt attempts =
    ap (find (λ a. a.sent)) (reverse-append (attempt ∷ []) attempts)
    ∙ find-append (λ a. a.sent) (reverse attempts) (attempt ∷ [])

-- its moment
moment : (found : Option Attempt) (attempt : Attempt) (sent : Bool)
    → option_map (λ a. a.at) (option_or found (if sent then Some attempt else None))
    ≡ option_or (option_map (λ a. a.at) found) (if sent then Some attempt.at else None)
moment (Some a) attempt sent = refl
moment None attempt true = refl
moment None attempt false = refl

-- one more attempt
pub attempts_are_counted : (attempt : Attempt) (attempts : List Attempt)
    → tally_of (attempt ∷ attempts) ≡ tally_with (tally_of attempts) attempt
unfolding tally_of
attempts_are_counted attempt attempts =
    let number : length (attempt ∷ attempts) ≡ length attempts + 1 = omega arith in
    let one : ℕ = if attempt.sent then 1 else 0 in
    let sent : count_by (λ a. a.sent) (attempt ∷ attempts) ≡ count_by (λ a. a.sent) attempts + one =
    sum_by-cons (λ a. if a.sent then 1 else 0) attempt attempts ∙ add_comm one (count_by (λ a. a.sent) attempts) in
    let first = ap (option_map (λ a. a.at)) (first_sent-cons attempt attempts)
    ∙ moment (first_sent attempts) attempt attempt.sent in
    λ i. record {
      attempts = number i;
      sent = sent i;
      profile = is_of_means Profile attempt || list_any (is_of_means Profile) attempts;
      author = is_of_means Author attempt || list_any (is_of_means Author) attempts;
      pages = is_of_means Pages attempt || list_any (is_of_means Pages) attempts;
      first = first i;
    }
