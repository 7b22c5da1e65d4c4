-- Who bears a token, by the pairs of digests and users.
use Rattle.index_plain.proofs.Words.{◌≡◌, Bool, true, false, sym, ap, ◌∙◌, subst, Option, Some, None, option_map, is_some, option_map_or}
use Rattle.index_plain.proofs.Words.{get, false≢true, UserRecord, Bytes, Pairs, same, Tables, AreBearers}
use Rattle.index_rules.specs.Facts.{IsBearer}

-- whether the token of a user who may be known has this digest
abbrev has_token : Bytes → Option UserRecord → Bool
has_token token at = option_map_or (λ known. same token known.token) at false

module _ (T : Tables) (bearers : Pairs) (are : AreBearers T.users bearers) (token : Bytes) where
  -- nobody bears a token at whose digest there is nobody
  pub IsBearer-none : ((user : Bytes) → get bearers (token, user) ≡ None) → IsBearer T token None
  IsBearer-none none user known found =
      sym (ap (has_token token) found) ∙ sym (are token user) ∙ ap is_some (none user)

  -- a user who is there is known, and bears it
  pub IsBearer-there : (user : Bytes) (known : UserRecord) → is_some (get bearers (token, user)) ≡ true → get T.users user ≡ Some known
      → IsBearer T token (Some (user, known))
  IsBearer-there user known there found =
      (found, sym (ap (has_token token) found) ∙ sym (are token user) ∙ there)

  pub is_known : (user : Bytes) → is_some (get bearers (token, user)) ≡ true → get T.users user ≡ None → ⊥
  is_known user there none =
      false≢true (sym (ap (has_token token) none) ∙ sym (are token user) ∙ there)

  pub IsBearer-missed : {R : Type 0} (part : R → Bytes × UserRecord) (found : Option R) → found ≡ None
      → ((user : Bytes) → get bearers (token, user) ≡ None) → IsBearer T token (option_map part found)
  IsBearer-missed part found none nobody = subst (λ it. IsBearer T token (option_map part it)) (sym none) (IsBearer-none nobody)
