-- Tables that stand for a history say of each call what the history says.
use Rattle.index_rules.proofs.Words.{◌≡◌, Bool, true, false, cond, not, ◌&&◌, ◌||◌, ◌⊎◌, inl, inr, refl, sym, ap, ◌∙◌, List, [], ◌∷◌}
use Rattle.index_rules.proofs.Words.{Option, Some, None, is_some, find, option_map, option_and_then, list_any, list_all, option_map_or, get}
use Rattle.index_rules.proofs.Words.{entries, keys, cases_Bool, and_parts, or_cases, or_left, or_right, false≢true, Call, Request, AddUser}
use Rattle.index_rules.proofs.Words.{SetToken, UserRecord, Bytes, same, read_user, read_token, Tables, user_key, token_key, name_key}
use Rattle.index_rules.proofs.Words.{file_key, release_key, HasOneBearer, bearer_in, caller_of, facts_in, of_both, at_both, owns_in}
use Rattle.index_rules.proofs.Words.{owns_alone_in, yank_in, is_banned_in, has_release_in, bears, verdict_on, verdict_now, or_empty}
use Rattle.index_rules.proofs.Words.{first_record, History, begins, more, is_read_as, user_after, user_by, with_read, with_token}
use Rattle.index_rules.proofs.Words.{users_after, users_by, bearer_after, owns_after, is_given_after, owns_alone_after, receivers_after}
use Rattle.index_rules.proofs.Words.{yank_after, is_banned_after, has_release_after, StandsFor, name_after, file_after, case_record_after}
use Rattle.index_rules.proofs.Words.{caller_after, facts_after, verdict_after}
use Rattle.index_rules.proofs.OwnerLists.{same-is}
use Rattle.index_rules.proofs.KeyLemmas.{same_truth}
use Rattle.index_rules.proofs.EntryLemmas.{get-found, get-missed, find-passes, list_all-at, list_all-from, each_owner, each_pair}

-- ---- the first of a list that passes

find-misses : (p : Bytes → Bool) (xs : List Bytes) (x : Bytes) → find p xs ≡ None → list_any (same x) xs ≡ true → p x ≡ false
find-misses p [] x e h = absurd (false≢true h)
find-misses p (y ∷ xs) x e h = elim (p y) as (λ b. p y ≡ b → cond b (Some y) (find p xs) ≡ None → p x ≡ false) [
  | true ↦ λ t e. cc
  | false ↦ λ t e. elim (or_cases _ _ h) [
    | inl s ↦ ap p (same-is x y s) ∙ t
    | inr s ↦ find-misses p xs x e s
  ]
] refl e

-- there is one that passes, and only one
pub find-one : (p : Bytes → Bool) (xs : List Bytes) (x : Bytes) → list_any (same x) xs ≡ true → p x ≡ true
    → ((y : Bytes) → p y ≡ true → y ≡ x) → find p xs ≡ Some x
find-one p [] x h t only = absurd (false≢true h)
find-one p (y ∷ xs) x h t only = elim (p y) as (λ b. p y ≡ b → cond b (Some y) (find p xs) ≡ Some x) [
  | true ↦ λ e. ap Some (only y e)
  | false ↦ λ e. elim (or_cases _ _ h) [
    | inl s ↦ absurd (false≢true (sym e ∙ ap p (sym (same-is x y s)) ∙ t))
    | inr s ↦ find-one p xs x s t only
  ]
] refl

-- ---- users

listed_by : (request : Request) (users : List Bytes) (u : Bytes) (before : Option UserRecord)
    → (is_some before ≡ true → list_any (same u) users ≡ true)
    → is_some (user_by request u before) ≡ true → list_any (same u) (users_by request users) ≡ true
listed_by (AddUser user office token) users u before listed is = by (read_user user) is
  where
    by : (read : Option Bytes) → is_some (cond (is_read_as read u) (Some (record { office = office; token = or_empty (read_token token) }))
        before) ≡ true → list_any (same u) (with_read read users) ≡ true
    by None is = listed is
    by (Some one) is = elim (same u one) as (λ b. is_some
        (cond b (Some (record { office = office; token = or_empty (read_token token) })) before) ≡ true
        → (b || list_any (same u) users) ≡ true) [ true ↦ λ _. refl | false ↦ listed ] is
listed_by (SetToken user token) users u before listed is = listed (by (is_read_as (read_user user) u) before is)
  where
    by : (b : Bool) (before : Option UserRecord)
        → is_some (cond b (option_map (with_token (or_empty (read_token token))) before) before) ≡ true → is_some before ≡ true
    by true None is = is
    by true (Some x) is = refl
    by false before is = is
listed_by request users u before listed is = listed is

-- each user was added
pub users_listed : (h : History) (u : Bytes) → is_some (user_after h u) ≡ true → list_any (same u) (users_after h) ≡ true
users_listed (begins user token) u is = elim (same u user) as (λ b. is_some (cond b (Some (first_record token)) None) ≡ true
    → (b || false) ≡ true) [ true ↦ λ _. refl | false ↦ λ e. e ] is
users_listed (more h e) u is = listed_by e.call.request (users_after h) u (user_after h u) (users_listed h u) is

pub bears-some : (token : Bytes) (user : Option UserRecord) → bears (Some token) user ≡ true
    → (x : UserRecord) × (user ≡ Some x) × (same token x.token ≡ true)
bears-some token None bears = absurd (false≢true bears)
bears-some token (Some x) bears = (x, refl, bears)

pub agree_at : {X : Type 0} (a b : Bytes → Option X) → ((q : Bytes) → a q ≡ b q) → (at : Option Bytes)
    → option_and_then a at ≡ option_and_then b at
agree_at a b each None = refl
agree_at a b each (Some q) = each q

test_agrees : (a b : Bytes → Bool) → ((q : Bytes) → a q ≡ b q) → (at : Option Bytes) → option_map_or a at false ≡ option_map_or b at false
test_agrees a b each None = refl
test_agrees a b each (Some q) = each q

both_agree : (a b : Bytes → Bytes → Bool) → ((x y : Bytes) → a x y ≡ b x y) → (x y : Option Bytes) → of_both a x y ≡ of_both b x y
both_agree a b each None y = refl
both_agree a b each (Some x) None = refl
both_agree a b each (Some x) (Some y) = each x y

at_both_agree : (a b : Bytes → Bytes → Option Bytes) → ((x y : Bytes) → a x y ≡ b x y) → (x y : Option Bytes)
    → at_both a x y ≡ at_both b x y
at_both_agree a b each None y = refl
at_both_agree a b each (Some x) None = refl
at_both_agree a b each (Some x) (Some y) = each x y

module _ (T : Tables) (h : History) (one : HasOneBearer T) (stands : StandsFor T h) (released : (n r : Bytes)
    → has_release_in T n r ≡ has_release_after h n r) (received : (n v : Bytes) → is_given_after h n v ≡ true
    → list_any (same v) (receivers_after h) ≡ true) where
  -- nobody bears the digest, in the tables and in the history, or the same user does
  abbrev Bearers : Bytes → Type 0
  Bearers token = ((bearer_in T token ≡ None) × (bearer_after h token ≡ None))
      ⊎ ((user : Bytes × UserRecord) × (bearer_in T token ≡ Some user) × (bearer_after h token ≡ Some user.0)
      × (user_after h user.0 ≡ Some user.1))

  some_bearer : (token : Bytes) (user : Bytes × UserRecord) → bearer_in T token ≡ Some user → Bearers token
  some_bearer token user found =
      let there : get T.users user.0 ≡ Some user.1 = get-found T.users (λ user. same token user.1.token) user found in
      let at : user_after h user.0 ≡ Some user.1 = sym (stands.users user.0) ∙ there in
      let bears_it : same token user.1.token ≡ true = find-passes (λ user. same token user.1.token) (entries T.users) user found in
      let only : (v : Bytes) → bears (Some token) (user_after h v) ≡ true → v ≡ user.0 = λ v bears_too.
      let x = bears-some token (user_after h v) bears_too in
      one v user.0 x.0 user.1 (stands.users v ∙ x.1) there (sym (same-is token x.0.token x.2) ∙ same-is token user.1.token bears_it) in
      inr (
        user,
        found,
        find-one (λ u. bears (Some token) (user_after h u)) (users_after h) user.0 (users_listed h user.0 (ap is_some at))
            (ap (bears (Some token)) at ∙ bears_it) only,
        at,
      )

  none_bearer : (token : Bytes) (found : Option Bytes) → bearer_after h token ≡ found → bearer_in T token ≡ None → Bearers token
  none_bearer token None is missed = inl (missed, is)
  none_bearer token (Some u) is missed =
      let x = bears-some token (user_after h u) (find-passes (λ u. bears (Some token) (user_after h u)) (users_after h) u is) in
      absurd (false≢true (sym (get-missed T.users (λ user. same token user.1.token) u x.0 missed (stands.users u ∙ x.1)) ∙ x.2))

  bearers : (token : Bytes) → Bearers token
  bearers token = elim (bearer_in T token) as (λ found. bearer_in T token ≡ found
      → Bearers token) [ None ↦ none_bearer token (bearer_after h token) refl | Some user ↦ some_bearer token user ] refl

  caller_agrees : (token : Bytes) → option_map caller_of (bearer_in T token) ≡ option_map (caller_after h) (bearer_after h token)
  caller_agrees token = elim (bearers token) [
    | inl none ↦ ap (option_map caller_of) none.0 ∙ sym (ap (option_map (caller_after h)) none.1)
    | inr some ↦ ap (option_map caller_of) some.1
        ∙ (λ i. Some (record { user = some.0.0; office = option_map_or (λ account. account.office) (sym some.3 i) false }))
        ∙ sym (ap (option_map (caller_after h)) some.2)
  ]

  pub who_agrees : (token : Bytes) → option_map (λ user. user.0) (bearer_in T token) ≡ bearer_after h token
  who_agrees token = elim (bearers token) [
    | inl none ↦ ap (option_map (λ user. user.0)) none.0 ∙ sym none.1
    | inr some ↦ ap (option_map (λ user. user.0)) some.1 ∙ sym some.2
  ]

  bearer_agrees : (token : Option Bytes) → option_map (λ user. user.0) (option_and_then (bearer_in T) token)
      ≡ option_and_then (bearer_after h) token
  bearer_agrees None = refl
  bearer_agrees (Some token) = who_agrees token

  all_agree : (n u : Bytes) → list_all (λ pair. not (same n pair.0) || same u pair.1) (keys T.owners)
      ≡ list_all (λ v. not (owns_after h n v) || same u v) (receivers_after h)
  all_agree n u = same_truth _ _
      (λ all. list_all-from (λ v. not (owns_after h n v) || same u v) (receivers_after h) (λ v _. elim (cases_Bool (owns_after h n v)) [
        | inl o ↦ or_right _ _ (each_owner T n u all v (stands.owners n v ∙ o))
        | inr o ↦ or_left _ _ (ap not o)
      ]))
      (λ all. each_pair T n u (λ v there.
      let o : owns_after h n v ≡ true = sym (stands.owners n v) ∙ there in
      ap (λ b. not b || same u v) (sym o) ∙ list_all-at (λ v. not (owns_after h n v) || same u v) (receivers_after h) v all
      (received n v (and_parts _ _ o).1)))

  -- the tables say of a call what the history says
  pub facts_agree : (c : Call) → facts_in T c ≡ facts_after h c
  facts_agree c = λ i. record {
    caller = caller_agrees c.token i;
    user = agree_at (get T.users) (user_after h) stands.users (user_key c.request) i;
    bearer = bearer_agrees (token_key c.request) i;
    name = agree_at (get T.names) (name_after h) stands.names (name_key c.request) i;
    owns = (ap (of_both (owns_in T) (name_key c.request)) (who_agrees c.token)
        ∙ both_agree (owns_in T) (owns_after h) stands.owners (name_key c.request) (bearer_after h c.token)) i;
    named_owns = both_agree (owns_in T) (owns_after h) stands.owners (name_key c.request) (user_key c.request) i;
    sole = both_agree (owns_alone_in T) (owns_alone_after h) (λ n u i. stands.owners n u i && all_agree n u i) (name_key c.request)
        (user_key c.request) i;
    file = agree_at (get T.files) (file_after h) stands.files (file_key c.request) i;
    is_banned = test_agrees (is_banned_in T) (is_banned_after h) stands.bans (file_key c.request) i;
    yank = at_both_agree (yank_in T) (yank_after h) stands.yanks (name_key c.request) (release_key c.request) i;
    has_release = both_agree (has_release_in T) (has_release_after h) released (name_key c.request) (release_key c.request) i;
    case = agree_at (get T.cases) (case_record_after h) stands.cases (name_key c.request) i;
  }

  -- so the verdict on the tables is that of the history
  pub verdict_agrees : (c : Call) → verdict_now T c ≡ verdict_after h c
  verdict_agrees c = ap (verdict_on c) (facts_agree c)
