-- Wrong outcomes do not meet the laws of rights.
use Rattle.index_rules.proofs.Words.{◌≡◌, inl, inr, ℕ, Bool, true, false, cond, not, refl, sym, ap, ◌∙◌, [], Option, Some, None, is_some}
use Rattle.index_rules.proofs.Words.{find, option_map, empty, get, get-empty, false≢true, true≢false, and_from, and_parts, and_right}
use Rattle.index_rules.proofs.Words.{not_from_false, read_name, project_of, Refusal, BadUser, BadFileName, BadName, NotOwner, Call, Request}
use Rattle.index_rules.proofs.Words.{AddOwner, RemoveOwner, Upload, UserRecord, first_record, first_tables, Bytes, Map, bytes_cmp}
use Rattle.index_rules.proofs.Words.{read_user, Tables, read_file, or_empty, Facts, of_both, AlreadySo, applies, verdict_of, History, more}
use Rattle.index_rules.proofs.Words.{is_read_as, bearer_after, is_given_after, is_held_now, owns_after, state_after, is_undeleted_after}
use Rattle.index_rules.proofs.Words.{last_body_after, body_after, IsLegal, facts_after, verdict_after, HasOwnersUpload, ServesOwnersUploads}
use Rattle.index_rules.proofs.Words.{WasAllowed, has_right}
use Rattle.index_rules.specs.Refuted.{RefutesRights, entry_of, name_and_token}
use Rattle.index_rules.proofs.Accepted.{NonePasses-among, NonePasses-find, accepted, refusals}
use Rattle.index_rules.proofs.KeyLemmas.{same-refl}
use Rattle.index_rules.proofs.PastReading.{at_key, read_itself, read_key}
use Rattle.index_rules.proofs.RetryNames.{reads_as}
use Rattle.index_rules.proofs.RightLemmas.{serves_owners_uploads, was_allowed}
use Rattle.index_rules.proofs.StandsOn.{StandsFor-opened}

module _ (h : History) (actor other token : Bytes) (at : ℕ) where
  wrong_owner : (name user n : Bytes) → IsLegal (more h (entry_of actor token at (AddOwner name user))) → read_name name ≡ Some n
      → has_right h n other ≡ false
      → ¬ WasAllowed h (entry_of other token at (AddOwner name user))
  wrong_owner name user n legal reads none it =
      let c : Call = (entry_of actor token at (AddOwner name user)).call in
      let all = accepted c (facts_after h c) legal.1 in
      let u : Bytes = or_empty (read_user user) in
      let reads_user : read_user user ≡ Some u = read_key (read_user user) (all.not_refused BadUser refl) in
      let before : owns_after h n u ≡ false = sym (λ i. of_both (owns_after h) (reads i) (reads_user i)) ∙ all.not_already in
      let held : is_held_now (state_after h n) ≡ true =
      (and_parts (is_held_now (state_after h n)) (is_given_after h n actor)
      (sym (λ i. of_both (owns_after h) (reads i) (legal.2 i))
      ∙ owned (of_both (owns_after h) (read_name name) (bearer_after h token)) (all.not_refused NotOwner refl))).0 in
      let after : owns_after (more h (entry_of other token at (AddOwner name user))) n u ≡ true =
      and_from _ _ held (ap (λ b. cond b true (is_given_after h n u))
      (and_from _ _ (reads_as (read_name name) n reads) (reads_as (read_user user) u reads_user))) in
      true≢false (sym after ∙ (it.names n none refl).owners u ∙ before)
    where
      owned : (b : Bool) → not b ≡ false → b ≡ true
      owned true passed = refl
      owned false passed = absurd (true≢false passed)

  wrong_upload : (file declared body requires : Bytes) → IsLegal (more h (entry_of actor token at (Upload file declared body requires)))
      → owns_after h (project_of file) other ≡ false → (¬ HasOwnersUpload h file body)
      → ¬ ServesOwnersUploads (more h (entry_of other token at (Upload file declared body requires)))
  wrong_upload file declared body requires legal none new it =
      let c : Call = (entry_of actor token at (Upload file declared body requires)).call in
      let reads : read_file file ≡ Some file = read_itself file ((accepted c (facts_after h c) legal.1).not_refused BadFileName refl) in
      let served : body_after (more h (entry_of other token at (Upload file declared body requires))) file ≡ Some body =
      (λ i. cond (at_key (read_file file) file reads true (is_undeleted_after h file) i)
      (Some (at_key (read_file file) file reads body (last_body_after h file) i)) None) in
      elim (it file body served) [
        | inl now ↦ true≢false (sym now.1 ∙ none)
        | inr was ↦ new was
      ]

wrong_look : (n u : Bytes) → ¬ ((users : Map UserRecord) (T : Tables)
    → name_and_token n u (record T { users = users }) ≡ name_and_token n u T)
wrong_look n u it =
    let T = first_tables u [] in
    let gone : option_map (λ (user : UserRecord). user.token) (get empty u) ≡ None =
    ap (option_map (λ (user : UserRecord). user.token)) (get-empty bytes_cmp u) in
    let there : option_map (λ (user : UserRecord). user.token) (get T.users u) ≡ Some [] =
    ap (option_map (λ (user : UserRecord). user.token))
    ((StandsFor-opened u []).users u ∙ ap (λ b. cond b (Some (first_record [])) None) (same-refl u)) in
    false≢true (sym (ap is_some gone) ∙ ap (λ shown. is_some shown.1) (it empty T) ∙ ap is_some there)

decided-already : (refusal : Option Refusal) (already : Bool) → verdict_of refusal already ≡ AlreadySo → refusal ≡ None
decided-already (Some r) already e = cc
decided-already None true e = refl
decided-already None false e = cc

wrong_retry : (h : History) (actor token name user : Bytes) (at again : ℕ) → is_read_as (read_user user) actor ≡ true
    → IsLegal (more h (entry_of actor token at (RemoveOwner name user)))
    → ¬ (verdict_after (more h (entry_of actor token at (RemoveOwner name user)))
    (record { at = again; token = token; request = RemoveOwner name user }) ≡ AlreadySo)
wrong_retry h actor token name user at again self legal is =
    let r : Request = RemoveOwner name user in
    let c : Call = record { at = at; token = token; request = r } in
    let twice : Call = record { at = again; token = token; request = r } in
    let then : History = more h (entry_of actor token at r) in
    let facts : Facts = facts_after then twice in
    let n : Bytes = or_empty (read_name name) in
    let reads : read_name name ≡ Some n = read_key (read_name name) ((accepted c (facts_after h c) legal.1).not_refused BadName refl) in
    let gone : owns_after then n actor ≡ false =
    and_right (is_held_now (state_after h n)) _
    (ap (λ b. cond b false (is_given_after h n actor)) (and_from _ _ (reads_as (read_name name) n reads) self)) in
    let refused : applies again r facts NotOwner ≡ true =
    not_from_false _ ((λ i. of_both (owns_after then) (reads i) (legal.2 i)) ∙ gone) in
    let none = NonePasses-find (applies again r facts) (refusals twice)
    (decided-already (find (applies again r facts) (refusals twice)) _ is) in
    true≢false (sym refused ∙ NonePasses-among (applies again r facts) (refusals twice) none NotOwner refl)

pub refutes_rights : RefutesRights
refutes_rights = record {
  names = λ h actor other token name user n at legal reads none. (
    was_allowed h (entry_of actor token at (AddOwner name user)) legal,
    wrong_owner h actor other token at name user n legal reads none,
  );
  uploads = λ h actor other token file declared body requires at legal none new. (
    serves_owners_uploads (more h (entry_of actor token at (Upload file declared body requires))) legal,
    wrong_upload h actor other token at file declared body requires legal none new,
  );
  looks = λ n u. ((λ users T. refl), wrong_look n u);
  retries = λ h actor token name user at again self legal. wrong_retry h actor token name user at again self legal;
}
