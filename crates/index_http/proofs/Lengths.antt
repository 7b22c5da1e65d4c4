-- The lengths of what stands in the head of a reply.
use Rattle.index_http.proofs.Words.{◌≡◌, ℕ, zero, suc, ◌<◌, ◌≤◌, Bool, true, List, [], Option, Some, length, refl, sym, subst}
use Rattle.std.proofs.Common.{◌&&◌, nat_le}
use Rattle.std.proofs.Common.{unwrap_or}
use Rattle.std.proofs.lemmas.Bool.{and_parts, leb-true}
use Rattle.std.proofs.lemmas.Bool.Decides.{Decides-below_and}
use Rattle.http.specs.StatusCode.{reason_phrase}
use Rattle.index_names.specs.Project.{is_project_name, IsNormalName}
use Rattle.index_names.proofs.NormalFormLaws.{project_name-read_name}

-- this phrase is short
abbrev is_short : Option (List ℕ) → Bool
is_short phrase = nat_le (length (unwrap_or phrase [])) 64

-- the phrases of the statuses below this one are short
abbrev short_below : ℕ → Bool
short_below zero = true
short_below (suc n) = is_short (reason_phrase n) && short_below n

pub short_reason : (status : ℕ) (phrase : List ℕ) → status < 1000 → Some phrase ≡ reason_phrase status → length phrase ≤ 64
short_reason status phrase within is =
    let test = λ (n : ℕ). is_short (reason_phrase n) in
    let short = (Decides-below_and test (λ n. test n ≡ true) short_below (λ n. (λ x. x, λ x. x)) refl (λ _. refl) 1000).0 refl status within
    in
    leb-true (length phrase) 64 (subst (λ (reason : Option (List ℕ)). is_short reason ≡ true) (sym is) short)

length-name : (name : List ℕ) → is_project_name name ≡ true → length name ≤ 128
length-name name is_name = leb-true (length name) 128 (and_parts _ _ (and_parts _ _ (and_parts _ _ (and_parts _ _ is_name).0).0).0).1

-- a normal form is a name itself
pub short_name : (name : List ℕ) → IsNormalName name → length name ≤ 128
short_name name normal = length-name name (project_name-read_name name name normal)
