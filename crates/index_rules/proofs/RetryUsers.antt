-- An accepted request on users that is asked again is already so.
use Rattle.index_rules.proofs.Words.{◌≡◌, ℕ, Bool, true, false, cond, not, ◌&&◌, inl, inr, refl, sym, ap, ◌∙◌, Option, Some, None, is_some}
use Rattle.index_rules.proofs.Words.{is_none, unwrap_or, option_map, option_and_then, nat_lt, option_map_or, false≢true, true≢false}
use Rattle.index_rules.proofs.Words.{cases_Bool, and_right, not_from_true, BadToken, NotOffice, BadUser, BadDigest, UserExists, NoUser}
use Rattle.index_rules.proofs.Words.{Request, AddUser, SetToken, UserRecord, Bytes, same, read_user, read_token, or_empty, no_user}
use Rattle.index_rules.proofs.Words.{AlreadySo, bears, is_taken, last_moment, History, is_read_as, user_after, users_after, bearer_after}
use Rattle.index_rules.proofs.Words.{with_token, IsLegal, caller_after, facts_after, verdict_after}
use Rattle.index_rules.specs.Verdict.{is_user_with}
use Rattle.index_rules.proofs.Accepted.{accepted, and_not}
use Rattle.index_rules.proofs.Agree.{bears-some, find-one, users_listed}
use Rattle.index_rules.proofs.EntryLemmas.{find-passes}
use Rattle.index_rules.proofs.KeyLemmas.{same-refl}
use Rattle.index_rules.proofs.OwnerLists.{same-is}
use Rattle.index_rules.proofs.PastReading.{read_key, at_key}
use Rattle.index_rules.proofs.StandsOn.{one_bearer_of_each}
use Rattle.index_rules.proofs.RetryWords.{of, twice, after, already}

-- a user bears his token in a legal history
bearer_is : (h : History) → IsLegal h → (u : Bytes) (x : UserRecord) → user_after h u ≡ Some x → bearer_after h x.token ≡ Some u
bearer_is h legal u x is =
    find-one (λ v. bears (Some x.token) (user_after h v)) (users_after h) u (users_listed h u (ap is_some is))
    (ap (bears (Some x.token)) is ∙ same-refl x.token)
    (λ v bears_too. let y = bears-some x.token (user_after h v) bears_too in
    one_bearer_of_each h legal v u y.0 x y.1 is (sym (same-is x.token y.0.token y.2)))

-- who bears a token has it
bearer_has : (h : History) (token u : Bytes) → bearer_after h token ≡ Some u
    → (x : UserRecord) × (user_after h u ≡ Some x) × (x.token ≡ token)
bearer_has h token u is =
    let x = bears-some token (user_after h u) (find-passes (λ v. bears (Some token) (user_after h v)) (users_after h) u is) in
    (x.0, x.1, sym (same-is token x.0.token x.2))

is_there : (user : Option UserRecord) → is_none user ≡ false → user ≡ Some (unwrap_or user no_user)
is_there None there = absurd (true≢false there)
is_there (Some user) there = refl

is_itself : (office : Bool) (token : Bytes) → is_user_with office (Some token) (record { office = office; token = token }) ≡ true
is_itself true token = same-refl token
is_itself false token = same-refl token

module _ (h : History) (actor token : Bytes) (at again : ℕ) (valid : nat_lt last_moment again ≡ false) where
  abbrev IsRepeated : Request → Type 0
  IsRepeated r = IsLegal (after h actor token at again r)
      → verdict_after (after h actor token at again r) (twice h actor token at again r) ≡ AlreadySo

  -- the caller is still there
  still_there : (r : Request) → IsLegal (after h actor token at again r)
      → user_after (after h actor token at again r) actor ≡ user_after h actor
      → bearer_after (after h actor token at again r) token ≡ Some actor
  still_there r legal kept =
      let x = bearer_has h token actor legal.2 in
      ap (bearer_after (after h actor token at again r)) (sym x.2) ∙ bearer_is (after h actor token at again r) legal actor x.0 (kept ∙ x.1)

  -- and is still of the office
  still_office : (r : Request) → IsLegal (after h actor token at again r)
      → user_after (after h actor token at again r) actor ≡ user_after h actor
      → option_map (caller_after (after h actor token at again r)) (bearer_after (after h actor token at again r) token)
      ≡ option_map (caller_after h) (bearer_after h token)
  still_office r legal kept =
      ap (option_map (caller_after (after h actor token at again r))) (still_there r legal kept)
      ∙ (λ i. Some (record { user = actor; office = option_map_or (λ account. account.office) (kept i) false }))
      ∙ sym (ap (option_map (caller_after h)) legal.2)

  free_for : (r : Request) → IsLegal (after h actor token at again r) → (digest user : Option Bytes) (d u : Bytes) (office : Bool)
      → digest ≡ Some d → user ≡ Some u
      → user_after (after h actor token at again r) u ≡ Some (record { office = office; token = d })
      → is_taken (option_and_then (bearer_after (after h actor token at again r)) digest) user ≡ false
  free_for r legal digest user d u office digest_is user_is has =
      (λ i. is_taken (option_and_then (bearer_after (after h actor token at again r)) (digest_is i)) (user_is i))
      ∙ ap (λ found. is_taken found (Some u)) (bearer_is (after h actor token at again r) legal u (record { office = office; token = d })
      has)
      ∙ ap not (same-refl u)

  pub add_user_again : (user : Bytes) (office : Bool) (digest : Bytes) → IsRepeated (AddUser user office digest)
  add_user_again user office digest legal =
      let r : Request = AddUser user office digest in
      let then : History = after h actor token at again r in
      let all = accepted (of h actor token at again r) (facts_after h (of h actor token at again r)) legal.1 in
      let u : Bytes = or_empty (read_user user) in
      let d : Bytes = or_empty (read_token digest) in
      let reads : read_user user ≡ Some u = read_key (read_user user) (all.not_refused BadUser refl) in
      let reads_token : read_token digest ≡ Some d = read_key (read_token digest) (all.not_refused BadDigest refl) in
      let new : is_some (user_after h u) ≡ false =
      sym (ap (λ read. is_some (option_and_then (user_after h) read)) reads)
      ∙ and_not _ _ (all.not_refused UserExists refl) all.not_already in
      let x = bearer_has h token actor legal.2 in
      let other : same actor u ≡ false = elim (cases_Bool (same actor u)) [
        | inl is ↦ absurd (false≢true (sym new ∙ ap (λ v. is_some (user_after h v)) (sym (same-is actor u is)) ∙ ap is_some x.1))
        | inr apart ↦ apart
      ] in
      let kept : user_after then actor ≡ user_after h actor =
      ap (λ b. cond b (Some (record { office = office; token = d })) (user_after h actor))
      (ap (λ read. is_read_as read actor) reads ∙ other) in
      let has : user_after then u ≡ Some (record { office = office; token = d }) =
      at_key (read_user user) u reads (Some (record { office = office; token = d })) (user_after h u) in
      let is : option_map_or (is_user_with office (read_token digest)) (option_and_then (user_after then) (read_user user)) false ≡ true =
      (λ i. option_map_or (is_user_with office (reads_token i)) (option_and_then (user_after then) (reads i)) false)
      ∙ ap (λ found. option_map_or (is_user_with office (Some d)) found false) has ∙ is_itself office d in
      already h actor token at again r (
        valid,
        (
          ap is_none (still_office r legal kept) ∙ all.not_refused BadToken refl,
          (
            ap (λ caller. not (option_map_or (λ caller. caller.office) caller false) && true) (still_office r legal kept)
                ∙ all.not_refused NotOffice refl,
            (
              all.not_refused BadUser refl,
              (
                all.not_refused BadDigest refl,
                (
                  and_right _ _ (not_from_true _ is),
                  (
                    free_for r legal (read_token digest) (read_user user) d u office reads_token reads has,
                    tt,
                  ),
                ),
              ),
            ),
          ),
        ),
      )
      is

  pub set_token_again : (user digest : Bytes) → is_read_as (read_user user) actor ≡ false → IsRepeated (SetToken user digest)
  set_token_again user digest other legal =
      let r : Request = SetToken user digest in
      let then : History = after h actor token at again r in
      let all = accepted (of h actor token at again r) (facts_after h (of h actor token at again r)) legal.1 in
      let u : Bytes = or_empty (read_user user) in
      let d : Bytes = or_empty (read_token digest) in
      let reads : read_user user ≡ Some u = read_key (read_user user) (all.not_refused BadUser refl) in
      let reads_token : read_token digest ≡ Some d = read_key (read_token digest) (all.not_refused BadDigest refl) in
      let was : user_after h u ≡ Some (unwrap_or (user_after h u) no_user) =
      is_there (user_after h u) (sym (ap (λ read. is_none (option_and_then (user_after h) read)) reads) ∙ all.not_refused NoUser refl) in
      let kept : user_after then actor ≡ user_after h actor =
      ap (λ b. cond b (option_map (with_token d) (user_after h actor)) (user_after h actor)) other in
      let has : user_after then u ≡ Some (with_token d (unwrap_or (user_after h u) no_user)) =
      at_key (read_user user) u reads (option_map (with_token d) (user_after h u)) (user_after h u) ∙ ap (option_map (with_token d)) was in
      already h actor token at again r (
        valid,
        (
          ap is_none (still_office r legal kept) ∙ all.not_refused BadToken refl,
          (
            ap (λ caller. not (option_map_or (λ caller. caller.office) caller false) && true) (still_office r legal kept)
                ∙ all.not_refused NotOffice refl,
            (
              all.not_refused BadUser refl,
              (
                all.not_refused BadDigest refl,
                (
                  ap (λ read. is_none (option_and_then (user_after then) read)) reads ∙ ap is_none has,
                  (
                    free_for r legal (read_token digest) (read_user user) d u
                        (unwrap_or (user_after h u) no_user).office reads_token reads has,
                    tt,
                  ),
                ),
              ),
            ),
          ),
        ),
      )
      ((λ i. bears (reads_token i) (option_and_then (user_after then) (reads i))) ∙ ap (bears (Some d)) has ∙ same-refl d)
