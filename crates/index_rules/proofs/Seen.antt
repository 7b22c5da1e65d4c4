-- What was seen is what the tables say, if no two users bear one digest.
use Rattle.index_rules.proofs.Words.{◌≡◌, true, not, ◌&&◌, ◌||◌, refl, sym, ap, ◌∙◌, subst, List, Option, Some, None, option_map}
use Rattle.index_rules.proofs.Words.{option_and_then, list_any, list_all, get, entries, keys, false≢true, Call, UserRecord, Bytes, same}
use Rattle.index_rules.proofs.Words.{Tables, user_key, token_key, name_key, keys_of, HasOneBearer, bearer_in, caller_of, facts_in, of_both}
use Rattle.index_rules.proofs.Words.{owns_in, owns_alone_in, verdict_now, verdict_on, effect, tables_with_call}
use Rattle.index_rules.specs.declared.keys.Keys.{Keys}
use Rattle.index_rules.specs.declared.view.View.{View}
use Rattle.index_rules.specs.Facts.{Sees, IsBearer, IsBearerAs, facts_seen, is_one_of}
use Rattle.index_rules.specs.Facts.{is_only_one_of, owners_of_name}
use Rattle.index_rules.specs.Effect.{means}
use Rattle.index_rules.proofs.OwnerLists.{list_any-owners_in, same-is}
use Rattle.index_rules.proofs.KeyLemmas.{same_truth}
use Rattle.index_rules.proofs.EntryLemmas.{get-found, get-missed, find-passes, list_all-at, list_all-from, each_owner, each_pair}

module _ (T : Tables) (one : HasOneBearer T) where
  the_bearer : (token : Bytes) (found : Option (Bytes × UserRecord)) → IsBearer T token found → bearer_in T token ≡ found
  the_bearer token found is = elim (bearer_in T token) as (λ b. bearer_in T token ≡ b → bearer_in T token ≡ found) [
    | None ↦ λ missed. missed ∙ none found is missed
    | Some e ↦ λ at. at ∙ some found is e (get-found T.users (λ user. same token user.1.token) e at)
        (find-passes (λ user. same token user.1.token) (entries T.users) e at)
  ] refl
    where
      none : (found : Option (Bytes × UserRecord)) → IsBearer T token found → bearer_in T token ≡ None → None ≡ found
      none None is missed = refl
      none (Some e) is missed = absurd (false≢true (sym (get-missed T.users (λ user. same token user.1.token) e.0 e.1 missed is.0) ∙ is.1))

      some : (found : Option (Bytes × UserRecord)) → IsBearer T token found → (e : Bytes × UserRecord) → get T.users e.0 ≡ Some e.1
          → same token e.1.token ≡ true → Some e ≡ found
      some None is e at bears = absurd (false≢true (sym (is e.0 e.1 at) ∙ bears))
      some (Some f) is e at bears =
          let keys : e.0 ≡ f.0 = one e.0 f.0 e.1 f.1 at is.0 (sym (same-is token e.1.token bears) ∙ same-is token f.1.token is.1) in
          let values : Some e.1 ≡ Some f.1 = sym at ∙ ap (get T.users) keys ∙ is.0 in
          let same_values : e.1 ≡ f.1 = cc in
          λ i. Some (keys i, same_values i)

  the_part : {A : Type 0} (part : Bytes × UserRecord → A) (token : Option Bytes) (found : Option A) → IsBearerAs part T token found
      → found ≡ option_map part (option_and_then (bearer_in T) token)
  the_part part None found is = is
  the_part part (Some token) found is = is.2 ∙ ap (option_map part) (sym (the_bearer token is.0 is.1))

  -- each owner is among them, and nobody else
  among : (n : Bytes) (users : List Bytes) → users ≡ owners_of_name T (Some n) → (user : Bytes)
      → list_any (same user) users ≡ owns_in T n user
  among n users is user = ap (list_any (same user)) is ∙ list_any-owners_in T n user

  one_seen : (name user : Option Bytes) (users : List Bytes) → users ≡ owners_of_name T name
      → is_one_of users user ≡ of_both (owns_in T) name user
  one_seen None None users is = refl
  one_seen None (Some u) users is = ap (list_any (same u)) is
  one_seen (Some n) None users is = refl
  one_seen (Some n) (Some u) users is = among n users is u

  sole_seen : (name user : Option Bytes) (users : List Bytes) → users ≡ owners_of_name T name
      → is_only_one_of users user ≡ of_both (owns_alone_in T) name user
  sole_seen None None users is = refl
  sole_seen None (Some u) users is = ap (λ us. list_any (same u) us && list_all (same u) us) is
  sole_seen (Some n) None users is = refl
  sole_seen (Some n) (Some u) users is = λ i. among n users is u i
      && same_truth (list_all (same u) users) (list_all (λ pair. not (same n pair.0) || same u pair.1) (keys T.owners))
      (λ all. each_pair T n u (λ v there. list_all-at (same u) users v all (among n users is v ∙ there)))
      (λ all. list_all-from (same u) users (λ v there. each_owner T n u all v (sym (among n users is v) ∙ there))) i

  user_of : (found : Option (Bytes × UserRecord))
      → option_map (λ caller. caller.user) (option_map caller_of found) ≡ option_map (λ user. user.0) found
  user_of None = refl
  user_of (Some e) = refl

  pub facts-seen : (c : Call) (k : Keys) (v : View) → k ≡ keys_of c → Sees T k v → facts_seen v c.request ≡ facts_in T c
  facts-seen c k v keys sees =
      let s : Sees T (keys_of c) v = subst (λ k. Sees T k v) keys sees in
      let caller : v.caller ≡ option_map caller_of (bearer_in T c.token) = the_part caller_of (Some c.token) v.caller s.caller in
      λ i. record {
        caller = caller i;
        user = s.user i;
        bearer = the_part (λ user. user.0) (token_key c.request) v.bearer s.bearer i;
        name = s.name i;
        owns = (ap (λ o. is_one_of v.owners (option_map (λ w. w.user) o)) caller ∙ ap (is_one_of v.owners) (user_of (bearer_in T c.token))
            ∙ one_seen (name_key c.request) (option_map (λ user. user.0) (bearer_in T c.token)) v.owners s.owners) i;
        named_owns = one_seen (name_key c.request) (user_key c.request) v.owners s.owners i;
        sole = sole_seen (name_key c.request) (user_key c.request) v.owners s.owners i;
        file = s.file i;
        is_banned = s.is_banned i;
        yank = s.yank i;
        has_release = s.has_release i;
        case = s.case i;
      }

  -- what was judged on it is judged on the tables
  pub verdict_now-seen : (c : Call) (k : Keys) (v : View) → k ≡ keys_of c → Sees T k v
      → verdict_now T c ≡ verdict_on c (facts_seen v c.request)
  verdict_now-seen c k v keys sees = ap (verdict_on c) (sym (facts-seen c k v keys sees))

  pub after-seen : (c : Call) (k : Keys) (v : View) → k ≡ keys_of c → Sees T k v
      → means (effect c.at c.request (facts_seen v c.request)) T ≡ tables_with_call T c
  after-seen c k v keys sees = ap (λ f. means (effect c.at c.request f) T) (facts-seen c k v keys sees)
