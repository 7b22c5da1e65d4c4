-- Sound tables stay sound if a user is put whose token nobody else bears.
use Rattle.index_rules.proofs.Words.{◌≡◌, true, false, refl, sym, ap, ◌∙◌, Option, Some, None, is_none, option_map, option_and_then, get}
use Rattle.index_rules.proofs.Words.{insert, entries, true≢false, false≢true, not-false, UserRecord, Bytes, same, Tables, HasOneBearer}
use Rattle.index_rules.proofs.Words.{bearer_in, is_taken, or_empty, IsSound}
use Rattle.index_rules.proofs.OwnerLists.{same-is}
use Rattle.index_rules.proofs.KeyLemmas.{same-refl}
use Rattle.index_rules.proofs.EntryLemmas.{get-found, get-missed, find-passes}
use Rattle.index_rules.proofs.PutLemmas.{each_put}

-- nobody but this user bears the digest
abbrev pub IsFreeFor : Tables → Bytes → Bytes → Type 0
IsFreeFor T token user = (v : Bytes) (y : UserRecord) → get T.users v ≡ Some y → y.token ≡ token → v ≡ user

pub HasOneBearer-put : (T : Tables) → HasOneBearer T → (user : Bytes) (account : UserRecord) → IsFreeFor T account.token user
    → HasOneBearer (record T { users = insert T.users user account })
HasOneBearer-put T one user account free =
    each_put T.users user account (λ u found. (v : Bytes) (x y : UserRecord) → found ≡ Some x → get (insert T.users user account) v ≡ Some y
    → x.token ≡ y.token → u ≡ v)
    (λ v x y at_u at_v e. each_put T.users user account (λ v found. (y : UserRecord) → found ≡ Some y → x.token ≡ y.token → user ≡ v)
    (λ _ _ _. refl)
    (λ v _ y at_v e. let is : account ≡ x = cc in sym (free v y at_v (sym e ∙ ap (λ (r : UserRecord). r.token) (sym is))))
    v y at_v e)
    (λ u _ v x y at_u at_v e. each_put T.users user account (λ v found. (y : UserRecord) → found ≡ Some y → x.token ≡ y.token → u ≡ v)
    (λ y at_v e. let is : account ≡ y = cc in free u x at_u (e ∙ ap (λ (r : UserRecord). r.token) (sym is)))
    (λ v _ y at_v e. one u v x y at_u at_v e)
    v y at_v e)

pub IsSound-user : (T : Tables) → IsSound T → (user : Bytes) (account : UserRecord) → IsFreeFor T account.token user
    → IsSound (record T { users = insert T.users user account })
IsSound-user T sound user account free = record {
  one_bearer = HasOneBearer-put T sound.one_bearer user account free;
  owners = sound.owners;
  owned = sound.owned;
  yanks = sound.yanks;
  cases = sound.cases;
  spelled = sound.spelled;
  undeleted_held = sound.undeleted_held;
  charge = sound.charge;
  undeleted = sound.undeleted;
  quota = sound.quota;
  bodies = sound.bodies;
  bytes = sound.bytes;
  bans = sound.bans;
}

-- a digest that is not taken is free for the user
pub not_taken : (T : Tables) → HasOneBearer T → (token user : Option Bytes) → is_none token ≡ false → is_none user ≡ false
    → is_taken (option_map (λ bearer. bearer.0) (option_and_then (bearer_in T) token)) user ≡ false
    → IsFreeFor T (or_empty token) (or_empty user)
not_taken T one None user no_token no_user taken v y at bears = absurd (true≢false no_token)
not_taken T one (Some token) None no_token no_user taken v y at bears = absurd (true≢false no_user)
not_taken T one (Some token) (Some user) no_token no_user taken v y at bears =
    let is : same token y.token ≡ true = ap (same token) bears ∙ same-refl token in
    elim (bearer_in T token) as (λ found. bearer_in T token ≡ found → is_taken (option_map (λ bearer. bearer.0) found) (Some user) ≡ false
    → v ≡ user) [
      | None ↦ λ missed _. absurd (false≢true (sym (get-missed T.users (λ bearer. same token bearer.1.token) v y missed at) ∙ is))
      | Some e ↦ λ found taken.
          let bears_too : same token e.1.token ≡ true = find-passes (λ bearer. same token bearer.1.token) (entries T.users) e found in
          one v e.0 y e.1 at (get-found T.users (λ bearer. same token bearer.1.token) e found) (bears ∙ same-is token e.1.token bears_too)
          ∙ sym (same-is user e.0 (not-false _ taken))
    ] refl taken
