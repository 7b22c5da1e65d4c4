-- The owners and the yanks after an accepted call are those of the history with it.
use Rattle.index_rules.proofs.Words.{◌≡◌, ℕ, Bool, true, false, cond, not, ◌&&◌, ◌⊎◌, inl, inr, refl, sym, ap, ◌∙◌, Option, Some, None}
use Rattle.index_rules.proofs.Words.{is_none, option_map, option_and_then, unwrap_or, get, true≢false, not-false, read_name, read_release}
use Rattle.index_rules.proofs.Words.{BadName, BadRelease, BadUser, NoCase, NoProject, Call, Request, Claim, AddOwner, RemoveOwner, Yank}
use Rattle.index_rules.proofs.Words.{Unyank, Relinquish, Prohibit, Allow, Transfer, Bytes, same, read_user, Tables, bearer_in, caller_of}
use Rattle.index_rules.proofs.Words.{facts_in, owns_in, yank_in, Accept, verdict_now, is_held, or_empty, no_case, without_name}
use Rattle.index_rules.proofs.Words.{tables_with_call, History, more, is_read_as, State, Free, Held, Prohibited, state_after, is_held_now}
use Rattle.index_rules.proofs.Words.{is_given_after, owns_after, reason_after, yank_after, Case, case_after, candidate_after, name_after}
use Rattle.index_rules.proofs.Words.{case_record_after, record_of_case}
use Rattle.index_rules.proofs.OwnerLists.{same-is}
use Rattle.index_rules.proofs.KeyLemmas.{same-sym, same_truth, cases_same, has-put, has-without, has-cleared, get-put_pair}
use Rattle.index_rules.proofs.KeyLemmas.{get-without_pair, get-without_name}
use Rattle.index_rules.proofs.Accepted.{accepted}
use Rattle.index_rules.proofs.PastReading.{read_key}
use Rattle.index_rules.proofs.StepNames.{held_at}

pub flip : (a b : Bytes) → same a b ≡ same b a
flip a b = same_truth _ _ (same-sym a b) (same-sym b a)

-- ---- owners

own-claimed : (b c o g : Bool) (s : State) → o ≡ (is_held_now s && g)
    → cond (b && c) true (cond (not b) o false) ≡ (is_held_now (cond b Held s) && cond b c g)
own-claimed true true o g s is = refl
own-claimed true false o g s is = refl
own-claimed false c o g s is = is

own-transferred : (b c o g : Bool) (s : State) → o ≡ (is_held_now s && g) → (b ≡ true → is_held_now s ≡ true)
    → cond (b && c) true (cond (not b) o false) ≡ (is_held_now s && cond b c g)
own-transferred true true o g s is held = sym (ap (λ y. y && true) (held refl))
own-transferred true false o g s is held = sym (ap (λ y. y && false) (held refl))
own-transferred false c o g s is held = is

own-added : (b x g : Bool) → (b ≡ true → x ≡ true) → cond b true (x && g) ≡ (x && cond b true g)
own-added true x g held = sym (ap (λ y. y && true) (held refl))
own-added false x g held = refl

own-removed : (b x g : Bool) → cond b false (x && g) ≡ (x && cond b false g)
own-removed true true g = refl
own-removed true false g = refl
own-removed false x g = refl

own-ended : (end : State) → is_held_now end ≡ false → (b g : Bool) (s : State)
    → cond (not b) (is_held_now s && g) false ≡ (is_held_now (cond b end s) && g)
own-ended end is true g s = sym (ap (λ y. y && g) is)
own-ended end is false g s = refl

-- ---- yanks

yank-claimed : (b : Bool) (y g : Option Bytes) (s : State) → y ≡ cond (is_held_now s) g None
    → cond (not b) y None ≡ cond (is_held_now (cond b Held s)) (cond b None g) None
yank-claimed true y g s is = refl
yank-claimed false y g s is = is

yank-put : (b x : Bool) (reason : Bytes) (g : Option Bytes) → (b ≡ true → x ≡ true)
    → cond b (Some reason) (cond x g None) ≡ cond x (cond b (Some reason) g) None
yank-put true x reason g held = sym (ap (λ y. cond y (Some reason) None) (held refl))
yank-put false x reason g held = refl

yank-taken : (b x : Bool) (g : Option Bytes) → cond b None (cond x g None) ≡ cond x (cond b None g) None
yank-taken true true g = refl
yank-taken true false g = refl
yank-taken false x g = refl

yank-ended : (end : State) → is_held_now end ≡ false → (b : Bool) (g : Option Bytes) (s : State)
    → cond (not b) (cond (is_held_now s) g None) None ≡ cond (is_held_now (cond b end s)) g None
yank-ended end is true g s = sym (ap (λ y. cond y g None) is)
yank-ended end is false g s = refl

first_true : (a b : Bool) → (a && b) ≡ true → a ≡ true
first_true true b is = refl
first_true false b is = is

-- ---- the names of requests

module _ (T : Tables) (h : History) (names : (name : Bytes) → get T.names name ≡ name_after h name) (cases : (name : Bytes)
    → get T.cases name ≡ case_record_after h name) (at : ℕ) (token actor : Bytes) where
  abbrev of : Request → Call
  of request = record { at = at; token = token; request = request }

  abbrev then : Request → History
  then request = more h (record { actor = actor; call = of request })

  held_as : (read : Option Bytes) (n m : Bytes) → read ≡ Some n → not (is_held (option_and_then (get T.names) read)) ≡ false
      → same m n ≡ true → is_held_now (state_after h m) ≡ true
  held_as read n m reads missing is =
      let held : is_held (get T.names n) ≡ true = sym (ap (λ r. is_held (option_and_then (get T.names) r)) reads) ∙ not-false _ missing in
      ap (λ x. is_held_now (state_after h x)) (same-is m n is) ∙ ap is_held_now (held_at T h n (names n) held).state

  module _ (stands : (name user : Bytes) → owns_in T name user ≡ owns_after h name user)
      (acts : or_empty (option_map (λ caller. caller.user) (option_map caller_of (bearer_in T token))) ≡ actor) where
    owners_claimed : (name : Bytes) → is_none (read_name name) ≡ false → (m u : Bytes)
        → owns_in (tables_with_call T (of (Claim name))) m u ≡ owns_after (then (Claim name)) m u
    owners_claimed name unread m u =
        let n : Bytes = or_empty (read_name name) in
        let reads : read_name name ≡ Some n = read_key (read_name name) unread in
        let owner : Bytes = or_empty (option_map (λ caller. caller.user) (option_map caller_of (bearer_in T token))) in
        has-put (without_name n T.owners) n owner m u ∙ ap (cond (same m n && same u owner) true) (has-cleared T.owners n m u)
        ∙ (λ i. cond (same m n && same u (acts i)) true (cond (not (flip n m i)) (owns_in T m u) false))
        ∙ own-claimed (same m n) (same u actor) (owns_in T m u) (is_given_after h m u) (state_after h m) (stands m u)
        ∙ (λ i. is_held_now (cond (is_read_as (sym reads i) m) Held (state_after h m))
        && cond (is_read_as (sym reads i) m) (same u actor) (is_given_after h m u))

    owners_transferred : (name : Bytes) (quiet : Bool) → is_none (read_name name) ≡ false
        → not (is_held (option_and_then (get T.names) (read_name name))) ≡ false
        → is_none (option_and_then (get T.cases) (read_name name)) ≡ false → (m u : Bytes)
        → owns_in (tables_with_call T (of (Transfer name quiet))) m u ≡ owns_after (then (Transfer name quiet)) m u
    owners_transferred name quiet unread missing no_case_there m u =
        let n : Bytes = or_empty (read_name name) in
        let reads : read_name name ≡ Some n = read_key (read_name name) unread in
        let candidate : Bytes = (unwrap_or (option_and_then (get T.cases) (read_name name)) no_case).candidate in
        let found : option_and_then (get T.cases) (read_name name) ≡ case_record_after h n =
        ap (option_and_then (get T.cases)) reads ∙ cases n in
        let is : candidate_after h n ≡ Some candidate =
        candidate_there (case_after h n) (sym (ap is_none found) ∙ no_case_there)
        ∙ (λ i. Some (unwrap_or (sym found i) no_case).candidate) in
        has-put (without_name n T.owners) n candidate m u ∙ ap (cond (same m n && same u candidate) true) (has-cleared T.owners n m u)
        ∙ (λ i. cond (same m n && same u candidate) true (cond (not (flip n m i)) (owns_in T m u) false))
        ∙ own-transferred (same m n) (same u candidate) (owns_in T m u) (is_given_after h m u) (state_after h m) (stands m u)
        (held_as (read_name name) n m reads missing)
        ∙ ap (λ b. is_held_now (state_after h m) && b) (to_candidate m n candidate (cases_same m n) is)
        ∙ (λ i. is_held_now (state_after h m) && cond (is_read_as (sym reads i) m) (is_read_as (candidate_after h m) u)
        (is_given_after h m u))
      where
        candidate_there : (case : Option Case) → is_none (option_map record_of_case case) ≡ false
            → option_map (λ one. one.candidate) case ≡ Some (unwrap_or (option_map record_of_case case) no_case).candidate
        candidate_there None missing = absurd (true≢false missing)
        candidate_there (Some one) missing = refl

        to_candidate : (m : Bytes) → (n candidate : Bytes) → (m ≡ n) ⊎ (same m n ≡ false) → candidate_after h n ≡ Some candidate
            → cond (same m n) (same u candidate) (is_given_after h m u)
            ≡ cond (same m n) (is_read_as (candidate_after h m) u) (is_given_after h m u)
        to_candidate m n candidate (inl e) is =
            ap (λ c. cond (same m n) (is_read_as c u) (is_given_after h m u)) (sym (ap (candidate_after h) e ∙ is))
        to_candidate m n candidate (inr other) is =
            ap (λ b. cond b (same u candidate) (is_given_after h m u)) other
            ∙ sym (ap (λ b. cond b (is_read_as (candidate_after h m) u) (is_given_after h m u)) other)

    owner_added : (name user : Bytes) → is_none (read_name name) ≡ false → is_none (read_user user) ≡ false
        → not (is_held (option_and_then (get T.names) (read_name name))) ≡ false
        → (m v : Bytes) → owns_in (tables_with_call T (of (AddOwner name user))) m v ≡ owns_after (then (AddOwner name user)) m v
    owner_added name user unread unread_user missing m v =
        let n : Bytes = or_empty (read_name name) in
        let u : Bytes = or_empty (read_user user) in
        let reads : read_name name ≡ Some n = read_key (read_name name) unread in
        let reads_user : read_user user ≡ Some u = read_key (read_user user) unread_user in
        has-put T.owners n u m v ∙ ap (cond (same m n && same v u) true) (stands m v)
        ∙ own-added (same m n && same v u) (is_held_now (state_after h m)) (is_given_after h m v)
        (λ is. held_as (read_name name) n m reads missing (first_true _ _ is))
        ∙ (λ i. is_held_now (state_after h m) && cond (is_read_as (sym reads i) m && is_read_as (sym reads_user i) v) true
        (is_given_after h m v))

    owner_removed : (name user : Bytes) → is_none (read_name name) ≡ false → is_none (read_user user) ≡ false
        → (m v : Bytes) → owns_in (tables_with_call T (of (RemoveOwner name user))) m v ≡ owns_after (then (RemoveOwner name user)) m v
    owner_removed name user unread unread_user m v =
        let n : Bytes = or_empty (read_name name) in
        let u : Bytes = or_empty (read_user user) in
        let reads : read_name name ≡ Some n = read_key (read_name name) unread in
        let reads_user : read_user user ≡ Some u = read_key (read_user user) unread_user in
        has-without T.owners n u m v ∙ ap (cond (same m n && same v u) false) (stands m v)
        ∙ own-removed (same m n && same v u) (is_held_now (state_after h m)) (is_given_after h m v)
        ∙ (λ i. is_held_now (state_after h m) && cond (is_read_as (sym reads i) m && is_read_as (sym reads_user i) v) false
        (is_given_after h m v))

    owners_ended : (end : State) → is_held_now end ≡ false → (read : Option Bytes) → is_none read ≡ false
        → (m u : Bytes) → cond (not (same (or_empty read) m)) (owns_in T m u) false
        ≡ (is_held_now (cond (is_read_as read m) end (state_after h m)) && is_given_after h m u)
    owners_ended end is read unread m u =
        (λ i. cond (not (flip (or_empty read) m i)) (stands m u i) false)
        ∙ own-ended end is (same m (or_empty read)) (is_given_after h m u) (state_after h m)
        ∙ (λ i. is_held_now (cond (is_read_as (sym (read_key read unread) i) m) end (state_after h m)) && is_given_after h m u)

    pub step_of_owners : (request : Request) → verdict_now T (of request) ≡ Accept → (name user : Bytes)
        → owns_in (tables_with_call T (of request)) name user ≡ owns_after (then request) name user
    step_of_owners (Claim name) accepts = owners_claimed name
        ((accepted (of (Claim name)) (facts_in T (of (Claim name))) accepts).not_refused BadName refl)
    step_of_owners (AddOwner name user) accepts =
        let all = accepted (of (AddOwner name user)) (facts_in T (of (AddOwner name user))) accepts in
        owner_added name user (all.not_refused BadName refl) (all.not_refused BadUser refl) (all.not_refused NoProject refl)
    step_of_owners (RemoveOwner name user) accepts =
        let all = accepted (of (RemoveOwner name user)) (facts_in T (of (RemoveOwner name user))) accepts in
        owner_removed name user (all.not_refused BadName refl) (all.not_refused BadUser refl)
    step_of_owners (Relinquish name) accepts = λ m u.
        has-cleared T.owners (or_empty (read_name name)) m u
        ∙ owners_ended Free refl (read_name name)
        ((accepted (of (Relinquish name)) (facts_in T (of (Relinquish name))) accepts).not_refused BadName refl) m u
    step_of_owners (Prohibit name) accepts = λ m u.
        has-cleared T.owners (or_empty (read_name name)) m u
        ∙ owners_ended Prohibited refl (read_name name)
        ((accepted (of (Prohibit name)) (facts_in T (of (Prohibit name))) accepts).not_refused BadName refl) m u
    step_of_owners (Allow name) accepts = λ m u.
        has-cleared T.owners (or_empty (read_name name)) m u
        ∙ owners_ended Free refl (read_name name)
        ((accepted (of (Allow name)) (facts_in T (of (Allow name))) accepts).not_refused BadName refl) m u
    step_of_owners (Transfer name quiet) accepts =
        let all = accepted (of (Transfer name quiet)) (facts_in T (of (Transfer name quiet))) accepts in
        owners_transferred name quiet (all.not_refused BadName refl) (all.not_refused NoProject refl) (all.not_refused NoCase refl)
    step_of_owners request accepts = stands

  module _ (stands : (name release : Bytes) → yank_in T name release ≡ yank_after h name release) where
    yanks_claimed : (name : Bytes) → is_none (read_name name) ≡ false → (m r : Bytes)
        → yank_in (tables_with_call T (of (Claim name))) m r ≡ yank_after (then (Claim name)) m r
    yanks_claimed name unread m r =
        let n : Bytes = or_empty (read_name name) in
        let reads : read_name name ≡ Some n = read_key (read_name name) unread in
        get-without_name n T.yanks m r ∙ (λ i. cond (not (flip n m i)) (yank_in T m r) None)
        ∙ yank-claimed (same m n) (yank_in T m r) (reason_after h m r) (state_after h m) (stands m r)
        ∙ (λ i. cond (is_held_now (cond (is_read_as (sym reads i) m) Held (state_after h m)))
        (cond (is_read_as (sym reads i) m) None (reason_after h m r)) None)

    yanked : (name release reason : Bytes) → is_none (read_name name) ≡ false → is_none (read_release release) ≡ false
        → not (is_held (option_and_then (get T.names) (read_name name))) ≡ false
        → (m q : Bytes) → yank_in (tables_with_call T (of (Yank name release reason))) m q
        ≡ yank_after (then (Yank name release reason)) m q
    yanked name release reason unread unread_release missing m q =
        let n : Bytes = or_empty (read_name name) in
        let r : Bytes = or_empty (read_release release) in
        let reads : read_name name ≡ Some n = read_key (read_name name) unread in
        let reads_release : read_release release ≡ Some r = read_key (read_release release) unread_release in
        get-put_pair T.yanks n r reason m q ∙ ap (cond (same m n && same q r) (Some reason)) (stands m q)
        ∙ yank-put (same m n && same q r) (is_held_now (state_after h m)) reason (reason_after h m q)
        (λ is. held_as (read_name name) n m reads missing (first_true _ _ is))
        ∙ (λ i. cond (is_held_now (state_after h m))
        (cond (is_read_as (sym reads i) m && is_read_as (sym reads_release i) q) (Some reason) (reason_after h m q)) None)

    unyanked : (name release : Bytes) → is_none (read_name name) ≡ false → is_none (read_release release) ≡ false
        → (m q : Bytes) → yank_in (tables_with_call T (of (Unyank name release))) m q ≡ yank_after (then (Unyank name release)) m q
    unyanked name release unread unread_release m q =
        let n : Bytes = or_empty (read_name name) in
        let r : Bytes = or_empty (read_release release) in
        let reads : read_name name ≡ Some n = read_key (read_name name) unread in
        let reads_release : read_release release ≡ Some r = read_key (read_release release) unread_release in
        get-without_pair T.yanks n r m q ∙ ap (cond (same m n && same q r) None) (stands m q)
        ∙ yank-taken (same m n && same q r) (is_held_now (state_after h m)) (reason_after h m q)
        ∙ (λ i. cond (is_held_now (state_after h m))
        (cond (is_read_as (sym reads i) m && is_read_as (sym reads_release i) q) None (reason_after h m q)) None)

    yanks_ended : (end : State) → is_held_now end ≡ false → (read : Option Bytes) → is_none read ≡ false
        → (m r : Bytes) → get (without_name (or_empty read) T.yanks) (m, r)
        ≡ cond (is_held_now (cond (is_read_as read m) end (state_after h m))) (reason_after h m r) None
    yanks_ended end is read unread m r =
        get-without_name (or_empty read) T.yanks m r ∙ (λ i. cond (not (flip (or_empty read) m i)) (stands m r i) None)
        ∙ yank-ended end is (same m (or_empty read)) (reason_after h m r) (state_after h m)
        ∙ (λ i. cond (is_held_now (cond (is_read_as (sym (read_key read unread) i) m) end (state_after h m))) (reason_after h m r) None)

    pub step_of_yanks : (request : Request) → verdict_now T (of request) ≡ Accept → (name release : Bytes)
        → yank_in (tables_with_call T (of request)) name release ≡ yank_after (then request) name release
    step_of_yanks (Claim name) accepts = yanks_claimed name
        ((accepted (of (Claim name)) (facts_in T (of (Claim name))) accepts).not_refused BadName refl)
    step_of_yanks (Yank name release reason) accepts =
        let all = accepted (of (Yank name release reason)) (facts_in T (of (Yank name release reason))) accepts in
        yanked name release reason (all.not_refused BadName refl) (all.not_refused BadRelease refl) (all.not_refused NoProject refl)
    step_of_yanks (Unyank name release) accepts =
        let all = accepted (of (Unyank name release)) (facts_in T (of (Unyank name release))) accepts in
        unyanked name release (all.not_refused BadName refl) (all.not_refused BadRelease refl)
    step_of_yanks (Relinquish name) accepts = yanks_ended Free refl (read_name name)
        ((accepted (of (Relinquish name)) (facts_in T (of (Relinquish name))) accepts).not_refused BadName refl)
    step_of_yanks (Prohibit name) accepts = yanks_ended Prohibited refl (read_name name)
        ((accepted (of (Prohibit name)) (facts_in T (of (Prohibit name))) accepts).not_refused BadName refl)
    step_of_yanks (Allow name) accepts = yanks_ended Free refl (read_name name)
        ((accepted (of (Allow name)) (facts_in T (of (Allow name))) accepts).not_refused BadName refl)
    step_of_yanks request accepts = stands
