-- The attempts to reach a name's owner, and the record of them.
use Rattle.std.specs.Prelude.{ℕ, ◌+◌, ◌<◌, ◌≤◌, ◌↔◌, ◌==◌, Bool, true, false, ◌||◌, if◌then◌else◌}
use Rattle.std.specs.Prelude.{List, length, count_by, reverse, Option, Some, None, IsSome}
use Rattle.std.specs.List.{find, list_any}
use Rattle.std.specs.Option.{option_map, option_or}
use Rattle.index_retention.specs.declared.attempts.Means.{Means}
use Rattle.index_retention.specs.declared.attempts.Means.TheVariants.{Profile, Author, Pages}

-- the most attempts of a case
abbrev pub most_attempts : ℕ
most_attempts = 1000

-- an attempt: by which means, whether it was sent, and its moment in Unix seconds
pub record Attempt : Type 0 where
  pub means : Means
  pub sent : Bool
  pub at : ℕ

-- an attempt of these parts
abbrev pub attempt_of : Means → Bool → ℕ → Attempt
attempt_of means sent at = record { means = means; sent = sent; at = at }

-- whether two means are the same
abbrev pub is_same_means : Means → Means → Bool
is_same_means Profile Profile = true
is_same_means Author Author = true
is_same_means Pages Pages = true
is_same_means a b = false

-- whether an attempt is by this means
abbrev pub is_of_means : Means → Attempt → Bool
is_of_means means attempt = is_same_means means attempt.means

-- the record of a case's attempts: how many were recorded, how many sent, which of the three means
-- occur, sent or not, and the moment of the first that was sent
pub record Tally : Type 0 where
  pub attempts : ℕ
  pub sent : ℕ
  pub profile : Bool
  pub author : Bool
  pub pages : Bool
  pub first : Option ℕ

-- a tally of these parts
abbrev pub tally_from : ℕ → ℕ → Bool → Bool → Bool → Option ℕ → Tally
tally_from attempts sent profile author pages first = record {
  attempts = attempts;
  sent = sent;
  profile = profile;
  author = author;
  pages = pages;
  first = first;
}

-- whether a tally has the most attempts
abbrev pub is_full : Tally → Bool
is_full tally = tally.attempts == most_attempts

-- numbers of a valid tally: no more attempts sent than recorded, no more than the most, and a first
-- moment exactly if one was sent
pub record IsTally (attempts sent : ℕ) (first : Option ℕ) : Type 0 where
  pub sent_within : sent ≤ attempts
  pub attempts_within : attempts ≤ most_attempts
  pub first_sent : IsSome first ↔ (0 < sent)

-- the first attempt that was sent, in the order of recording, in a list with the newest first
abbrev pub first_sent : List Attempt → Option Attempt
first_sent attempts = find (λ attempt. attempt.sent) (reverse attempts)

-- the tally of a list of attempts with the newest first
unfoldable pub tally_of : List Attempt → Tally
tally_of attempts = record {
  attempts = length attempts;
  sent = count_by (λ attempt. attempt.sent) attempts;
  profile = list_any (is_of_means Profile) attempts;
  author = list_any (is_of_means Author) attempts;
  pages = list_any (is_of_means Pages) attempts;
  first = option_map (λ attempt. attempt.at) (first_sent attempts);
}

-- a tally with one attempt more
abbrev pub tally_with : Tally → Attempt → Tally
tally_with tally attempt = record {
  attempts = tally.attempts + 1;
  sent = tally.sent + (if attempt.sent then 1 else 0);
  profile = is_of_means Profile attempt || tally.profile;
  author = is_of_means Author attempt || tally.author;
  pages = is_of_means Pages attempt || tally.pages;
  first = option_or tally.first (if attempt.sent then Some attempt.at else None);
}
