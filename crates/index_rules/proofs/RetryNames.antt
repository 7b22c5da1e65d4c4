-- An accepted request on a name that is asked again is already so.
use Rattle.index_rules.proofs.Words.{◌≡◌, ℕ, Bool, true, false, cond, not, ◌&&◌, ◌==◌, refl, ap, ◌∙◌, Option, Some, None, is_none}
use Rattle.index_rules.proofs.Words.{option_and_then, nat_lt, option_map_or, eq-eqb, and_from, and_parts, and_right, not_from_false}
use Rattle.index_rules.proofs.Words.{not_from_true, read_name, read_release, BadToken, NotOffice, BadUser, BadName, BadRelease, BadText}
use Rattle.index_rules.proofs.Words.{QuotaTooLarge, NoUser, NoProject, NotOwner, NoRelease, QuotaBelowCharge, Request, SetQuota, Claim}
use Rattle.index_rules.proofs.Words.{AddOwner, RemoveOwner, Yank, Unyank, Prohibit, Allow, Bytes, same, Project, read_user, or_empty}
use Rattle.index_rules.proofs.Words.{at_both, of_both, Accept, AlreadySo, held_project, is_prohibited, last_moment, History, is_read_as}
use Rattle.index_rules.proofs.Words.{bearer_after, State, Free, Held, Prohibited, state_after, quota_after, is_held_now, is_given_after}
use Rattle.index_rules.proofs.Words.{owns_after, owns_alone_after, reason_after, yank_after, name_after, project_after, record_of_state}
use Rattle.index_rules.proofs.Words.{facts_after, verdict_after}
use Rattle.std.proofs.lemmas.Bool.{and_left}
use Rattle.index_rules.proofs.Accepted.{accepted}
use Rattle.index_rules.proofs.KeyLemmas.{same-refl}
use Rattle.index_rules.proofs.PastReading.{read_key, at_key}
use Rattle.index_rules.proofs.RetryWords.{of, twice, after, already, held_now, held_same, owns_now}

below_alike : (quota : ℕ) (s : State) (p q : Project) → p.charge ≡ q.charge
    → option_map_or (λ project. nat_lt quota project.charge) (held_project (record_of_state s p)) false
    ≡ option_map_or (λ project. nat_lt quota project.charge) (held_project (record_of_state s q)) false
below_alike quota Free p q same = refl
below_alike quota Held p q same = ap (nat_lt quota) same
below_alike quota Prohibited p q same = refl

gone_within : (b : Bool) (read : Option Bytes) → read ≡ None → is_none (cond b read None) ≡ true
gone_within true read is = ap is_none is
gone_within false read is = refl

still_true : (b before : Bool) → before ≡ true → cond b true before ≡ true
still_true true before is = refl
still_true false before is = is

-- what was read is read as itself
pub reads_as : (read : Option Bytes) (n : Bytes) → read ≡ Some n → is_read_as read n ≡ true
reads_as read n reads = ap (λ read. is_read_as read n) reads ∙ same-refl n

module _ (h : History) (actor token : Bytes) (at again : ℕ) (valid : nat_lt last_moment again ≡ false)
    (bearer : bearer_after h token ≡ Some actor) where
  abbrev IsRepeated : Request → Type 0
  IsRepeated r = verdict_after h (of h actor token at again r) ≡ Accept
      → verdict_after (after h actor token at again r) (twice h actor token at again r) ≡ AlreadySo

  below_same : (quota : ℕ) (name : Bytes) (key : Option Bytes)
      → option_map_or (λ project. nat_lt quota project.charge)
      (held_project (option_and_then (name_after (after h actor token at again (SetQuota name quota))) key)) false
      ≡ option_map_or (λ project. nat_lt quota project.charge) (held_project (option_and_then (name_after h) key)) false
  below_same quota name None = refl
  below_same quota name (Some n) = below_alike quota (state_after h n) _ _ refl

  pub quota_again : (name : Bytes) (quota : ℕ) → IsRepeated (SetQuota name quota)
  quota_again name quota accepts =
      let r : Request = SetQuota name quota in
      let all = accepted (of h actor token at again r) (facts_after h (of h actor token at again r)) accepts in
      let n : Bytes = or_empty (read_name name) in
      let reads : read_name name ≡ Some n = read_key (read_name name) (all.not_refused BadName refl) in
      let held : state_after h n ≡ Held = held_now h (read_name name) n reads (all.not_refused NoProject refl) in
      already h actor token at again r (
        valid,
        (
          all.not_refused BadToken refl,
          (
            all.not_refused NotOffice refl,
            (
              all.not_refused BadName refl,
              (
                all.not_refused QuotaTooLarge refl,
                (
                  ap not (held_same h actor token at again r (λ n. refl) (read_name name)) ∙ all.not_refused NoProject refl,
                  (
                    below_same quota name (read_name name) ∙ all.not_refused QuotaBelowCharge refl,
                    tt,
                  ),
                ),
              ),
            ),
          ),
        ),
      )
      (ap (λ read. option_map_or (λ project. quota == project.quota)
      (held_project (option_and_then (name_after (after h actor token at again r)) read)) false) reads
      ∙ (λ i. option_map_or (λ project. quota == project.quota)
      (held_project (record_of_state (held i) (project_after (after h actor token at again r) n))) false)
      ∙ ap (λ q. quota == q) (at_key (read_name name) n reads quota (quota_after h n)) ∙ eq-eqb quota quota refl)

  pub claim_again : (name : Bytes) → IsRepeated (Claim name)
  claim_again name accepts =
      let r : Request = Claim name in
      let all = accepted (of h actor token at again r) (facts_after h (of h actor token at again r)) accepts in
      let n : Bytes = or_empty (read_name name) in
      let reads : read_name name ≡ Some n = read_key (read_name name) (all.not_refused BadName refl) in
      let held : state_after (after h actor token at again r) n ≡ Held = at_key (read_name name) n reads Held (state_after h n) in
      let owns : of_both (owns_after (after h actor token at again r)) (read_name name) (bearer_after h token) ≡ true =
      (λ i. of_both (owns_after (after h actor token at again r)) (reads i) (bearer i))
      ∙ (λ i. is_held_now (held i) && at_key (read_name name) n reads (same actor actor) (is_given_after h n actor) i) ∙ same-refl actor in
      already h actor token at again r (
        valid,
        (
          all.not_refused BadToken refl,
          (
            all.not_refused BadName refl,
            (
              ap (λ read. is_prohibited (option_and_then (name_after (after h actor token at again r)) read)) reads
                  ∙ ap (λ s. is_prohibited (record_of_state s (project_after (after h actor token at again r) n))) held,
              (
                and_right _ _ (not_from_true _ owns),
                tt,
              ),
            ),
          ),
        ),
      )
      owns

  pub add_owner_again : (name user : Bytes) → IsRepeated (AddOwner name user)
  add_owner_again name user accepts =
      let r : Request = AddOwner name user in
      let all = accepted (of h actor token at again r) (facts_after h (of h actor token at again r)) accepts in
      let n : Bytes = or_empty (read_name name) in
      let u : Bytes = or_empty (read_user user) in
      let reads : read_name name ≡ Some n = read_key (read_name name) (all.not_refused BadName refl) in
      let reads_user : read_user user ≡ Some u = read_key (read_user user) (all.not_refused BadUser refl) in
      let owned = and_parts (is_held_now (state_after h n)) (is_given_after h n actor)
      (owns_now h token actor bearer (read_name name) n reads (all.not_refused NotOwner refl)) in
      let owns : of_both (owns_after (after h actor token at again r)) (read_name name) (bearer_after h token) ≡ true =
      (λ i. of_both (owns_after (after h actor token at again r)) (reads i) (bearer i))
      ∙ and_from _ _ owned.0 (still_true (is_read_as (read_name name) n && is_read_as (read_user user) actor) _ owned.1) in
      already h actor token at again r (
        valid,
        (
          all.not_refused BadToken refl,
          (
            all.not_refused BadUser refl,
            (
              all.not_refused BadName refl,
              (
                all.not_refused NoUser refl,
                (
                  all.not_refused NoProject refl,
                  (
                    not_from_true _ owns,
                    tt,
                  ),
                ),
              ),
            ),
          ),
        ),
      )
      ((λ i. of_both (owns_after (after h actor token at again r)) (reads i) (reads_user i))
      ∙ and_from _ _ owned.0 (ap (λ b. cond b true (is_given_after h n u))
      (and_from _ _ (reads_as (read_name name) n reads) (reads_as (read_user user) u reads_user))))

  pub remove_owner_again : (name user : Bytes) → is_read_as (read_user user) actor ≡ false → IsRepeated (RemoveOwner name user)
  remove_owner_again name user other accepts =
      let r : Request = RemoveOwner name user in
      let all = accepted (of h actor token at again r) (facts_after h (of h actor token at again r)) accepts in
      let n : Bytes = or_empty (read_name name) in
      let u : Bytes = or_empty (read_user user) in
      let reads : read_name name ≡ Some n = read_key (read_name name) (all.not_refused BadName refl) in
      let reads_user : read_user user ≡ Some u = read_key (read_user user) (all.not_refused BadUser refl) in
      let owned = and_parts (is_held_now (state_after h n)) (is_given_after h n actor)
      (owns_now h token actor bearer (read_name name) n reads (all.not_refused NotOwner refl)) in
      let owns : of_both (owns_after (after h actor token at again r)) (read_name name) (bearer_after h token) ≡ true =
      (λ i. of_both (owns_after (after h actor token at again r)) (reads i) (bearer i))
      ∙ and_from _ _ owned.0 (ap (λ b. cond b false (is_given_after h n actor)) (and_right (is_read_as (read_name name) n) _ other)
      ∙ owned.1) in
      let gone : owns_after (after h actor token at again r) n u ≡ false =
      and_right (is_held_now (state_after h n)) _
      (ap (λ b. cond b false (is_given_after h n u))
      (and_from _ _ (reads_as (read_name name) n reads) (reads_as (read_user user) u reads_user))) in
      already h actor token at again r (
        valid,
        (
          all.not_refused BadToken refl,
          (
            all.not_refused BadUser refl,
            (
              all.not_refused BadName refl,
              (
                all.not_refused NoUser refl,
                (
                  all.not_refused NoProject refl,
                  (
                    not_from_true _ owns,
                    (
                      (λ i. of_both (owns_alone_after (after h actor token at again r)) (reads i) (reads_user i)) ∙ and_left _ _ gone,
                      tt,
                    ),
                  ),
                ),
              ),
            ),
          ),
        ),
      )
      (not_from_false _ ((λ i. of_both (owns_after (after h actor token at again r)) (reads i) (reads_user i)) ∙ gone))

  pub yank_again : (name release reason : Bytes) → IsRepeated (Yank name release reason)
  yank_again name release reason accepts =
      let r : Request = Yank name release reason in
      let all = accepted (of h actor token at again r) (facts_after h (of h actor token at again r)) accepts in
      let n : Bytes = or_empty (read_name name) in
      let y : Bytes = or_empty (read_release release) in
      let reads : read_name name ≡ Some n = read_key (read_name name) (all.not_refused BadName refl) in
      let reads_release : read_release release ≡ Some y = read_key (read_release release) (all.not_refused BadRelease refl) in
      let held : state_after h n ≡ Held = held_now h (read_name name) n reads (all.not_refused NoProject refl) in
      already h actor token at again r (
        valid,
        (
          all.not_refused BadToken refl,
          (
            all.not_refused BadName refl,
            (
              all.not_refused BadRelease refl,
              (
                all.not_refused BadText refl,
                (
                  all.not_refused NoProject refl,
                  (
                    all.not_refused NotOwner refl,
                    (
                      all.not_refused NoRelease refl,
                      tt,
                    ),
                  ),
                ),
              ),
            ),
          ),
        ),
      )
      ((λ i. option_map_or (same reason) (at_both (yank_after (after h actor token at again r)) (reads i) (reads_release i)) false)
      ∙ (λ i. option_map_or (same reason) (cond (is_held_now (held i))
      (cond (and_from _ _ (reads_as (read_name name) n reads) (reads_as (read_release release) y reads_release) i) (Some reason)
      (reason_after h n y)) None) false)
      ∙ same-refl reason)

  pub unyank_again : (name release : Bytes) → IsRepeated (Unyank name release)
  unyank_again name release accepts =
      let r : Request = Unyank name release in
      let all = accepted (of h actor token at again r) (facts_after h (of h actor token at again r)) accepts in
      let n : Bytes = or_empty (read_name name) in
      let y : Bytes = or_empty (read_release release) in
      let reads : read_name name ≡ Some n = read_key (read_name name) (all.not_refused BadName refl) in
      let reads_release : read_release release ≡ Some y = read_key (read_release release) (all.not_refused BadRelease refl) in
      already h actor token at again r (
        valid,
        (
          all.not_refused BadToken refl,
          (
            all.not_refused BadName refl,
            (
              all.not_refused BadRelease refl,
              (
                all.not_refused NoProject refl,
                (
                  all.not_refused NotOwner refl,
                  (
                    all.not_refused NoRelease refl,
                    tt,
                  ),
                ),
              ),
            ),
          ),
        ),
      )
      ((λ i. is_none (at_both (yank_after (after h actor token at again r)) (reads i) (reads_release i)))
      ∙ gone_within (is_held_now (state_after h n)) _
      (ap (λ b. cond b None (reason_after h n y))
      (and_from _ _ (reads_as (read_name name) n reads) (reads_as (read_release release) y reads_release))))

  pub prohibit_again : (name : Bytes) → IsRepeated (Prohibit name)
  prohibit_again name accepts =
      let r : Request = Prohibit name in
      let all = accepted (of h actor token at again r) (facts_after h (of h actor token at again r)) accepts in
      let n : Bytes = or_empty (read_name name) in
      let reads : read_name name ≡ Some n = read_key (read_name name) (all.not_refused BadName refl) in
      already h actor token at again r
      (valid, (all.not_refused BadToken refl, (all.not_refused NotOffice refl, (all.not_refused BadName refl, tt))))
      (ap (λ read. is_prohibited (option_and_then (name_after (after h actor token at again r)) read)) reads
      ∙ ap (λ s. is_prohibited (record_of_state s (project_after (after h actor token at again r) n)))
      (at_key (read_name name) n reads Prohibited (state_after h n)))

  pub allow_again : (name : Bytes) → IsRepeated (Allow name)
  allow_again name accepts =
      let r : Request = Allow name in
      let all = accepted (of h actor token at again r) (facts_after h (of h actor token at again r)) accepts in
      let n : Bytes = or_empty (read_name name) in
      let reads : read_name name ≡ Some n = read_key (read_name name) (all.not_refused BadName refl) in
      already h actor token at again r
      (valid, (all.not_refused BadToken refl, (all.not_refused NotOffice refl, (all.not_refused BadName refl, tt))))
      (ap (λ read. not (is_prohibited (option_and_then (name_after (after h actor token at again r)) read))) reads
      ∙ ap (λ s. not (is_prohibited (record_of_state s (project_after (after h actor token at again r) n))))
      (at_key (read_name name) n reads Free (state_after h n)))
