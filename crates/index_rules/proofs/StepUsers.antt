-- The users after an accepted call are those of the history with it.
use Rattle.index_rules.proofs.Words.{◌≡◌, ℕ, Bool, false, cond, refl, sym, ap, ◌∙◌, Option, Some, None, is_none, option_map}
use Rattle.index_rules.proofs.Words.{option_and_then, unwrap_or, get, true≢false, BadUser, NoUser, Call, Request, AddUser, SetToken}
use Rattle.index_rules.proofs.Words.{UserRecord, Bytes, same, read_user, read_token, Tables, facts_in, Accept, verdict_now, or_empty}
use Rattle.index_rules.proofs.Words.{no_user, tables_with_call, History, more, user_after, with_token}
use Rattle.index_rules.proofs.KeyLemmas.{get-put}
use Rattle.index_rules.proofs.PutLemmas.{each_put}
use Rattle.index_rules.proofs.Accepted.{accepted}
use Rattle.index_rules.proofs.PastReading.{read_key, by_key, at_key, at_other}

module _ (T : Tables) (h : History) (stands : (user : Bytes) → get T.users user ≡ user_after h user) (at : ℕ) (token actor : Bytes) where
  abbrev of : Request → Call
  of request = record { at = at; token = token; request = request }

  abbrev then : Request → History
  then request = more h (record { actor = actor; call = of request })

  user_added : (raw digest : Bytes) (office : Bool) → is_none (read_user raw) ≡ false → (q : Bytes)
      → get (tables_with_call T (of (AddUser raw office digest))).users q ≡ user_after (then (AddUser raw office digest)) q
  user_added raw digest office unread q =
      let account : UserRecord = record { office = office; token = or_empty (read_token digest) } in
      let user : Bytes = or_empty (read_user raw) in
      get-put T.users user account q ∙ ap (cond (same q user) (Some account)) (stands q)
      ∙ sym (by_key (read_user raw) user (read_key (read_user raw) unread) (Some account) (user_after h q) q)

  token_set : (raw digest : Bytes) → is_none (read_user raw) ≡ false → is_none (option_and_then (get T.users) (read_user raw)) ≡ false
      → (q : Bytes) → get (tables_with_call T (of (SetToken raw digest))).users q ≡ user_after (then (SetToken raw digest)) q
  token_set raw digest unread missing =
      let user : Bytes = or_empty (read_user raw) in
      let reads : read_user raw ≡ Some user = read_key (read_user raw) unread in
      let new : Bytes = or_empty (read_token digest) in
      let was : option_and_then (get T.users) (read_user raw) ≡ user_after h user =
      ap (option_and_then (get T.users)) reads ∙ stands user in
      each_put T.users user (record { office = (unwrap_or (option_and_then (get T.users) (read_user raw)) no_user).office; token = new })
      (λ q found. found ≡ user_after (then (SetToken raw digest)) q)
      (with_new (option_and_then (get T.users) (read_user raw)) new missing ∙ ap (option_map (with_token new)) was
      ∙ sym (at_key (read_user raw) user reads (option_map (with_token new) (user_after h user)) (user_after h user)))
      (λ q other. stands q ∙ sym (at_other (read_user raw) user reads (option_map (with_token new) (user_after h q)) (user_after h q)
      q other))
    where
      with_new : (found : Option UserRecord) (new : Bytes) → is_none found ≡ false
          → Some (record { office = (unwrap_or found no_user).office; token = new }) ≡ option_map (with_token new) found
      with_new None new missing = absurd (true≢false missing)
      with_new (Some user) new missing = refl

  pub step_of_users : (request : Request) → verdict_now T (of request) ≡ Accept → (q : Bytes)
      → get (tables_with_call T (of request)).users q ≡ user_after (then request) q
  step_of_users (AddUser user office digest) accepts =
      user_added user digest office ((accepted (of (AddUser user office digest)) (facts_in T (of (AddUser user office digest)))
      accepts).not_refused BadUser refl)
  step_of_users (SetToken user digest) accepts =
      let all = accepted (of (SetToken user digest)) (facts_in T (of (SetToken user digest))) accepts in
      token_set user digest (all.not_refused BadUser refl) (all.not_refused NoUser refl)
  step_of_users request accepts = stands
