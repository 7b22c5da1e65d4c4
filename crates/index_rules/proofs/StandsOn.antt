-- Tables that stand for a legal history are sound, and stand for the history with each call that is accepted.
use Rattle.index_rules.proofs.Words.{◌≡◌, false, cond, refl, sym, ap, ◌∙◌, subst, List, [], ◌∷◌, Option, Some, None, is_some, is_none}
use Rattle.index_rules.proofs.Words.{option_map, get, empty, get-empty, same_map, nat_list_cmp_total, exact_bytes, true≢false, false≢true}
use Rattle.index_rules.proofs.Words.{BadToken, Call, UserRecord, Answer, Accepted, Already, Refused, Fault, Bytes, same, bytes_cmp}
use Rattle.index_rules.proofs.Words.{pair_cmp, Tables, HasOneBearer, bearer_in, caller_of, facts_in, Accept, held_project, verdict_now}
use Rattle.index_rules.proofs.Words.{or_empty, tables_with_call, first_record, first_tables, Answers, Runs, tables_after, IsSound, History}
use Rattle.index_rules.proofs.Words.{begins, more, bearer_after, State, Free, Held, Prohibited, state_after, shown_after, quota_after}
use Rattle.index_rules.proofs.Words.{last_upload_after, charge_after, undeleted_count_after, StandsFor, record_of_state, project_after}
use Rattle.index_rules.proofs.Words.{name_after, file_after, verdict_after, IsLegal}
use Rattle.index_rules.specs.declared.records.NameRecord.TheVariants as name_record
use Rattle.index_rules.specs.declared.view.Caller.{Caller}
use Rattle.index_rules.specs.Laws.{HasOneBearerOfEach}
use Rattle.index_rules.specs.Legal.{with_call, history_after, CarriesOn, CarriesOnAll}
use Rattle.index_rules.proofs.OwnerLists.{pair_total, exact_pair}
use Rattle.index_rules.proofs.KeyLemmas.{get-put}
use Rattle.index_rules.proofs.Accepted.{accepted}
use Rattle.index_rules.proofs.SoundOpened.{IsSound-opened}
use Rattle.index_rules.proofs.SoundLemmas.{IsSound-after}
use Rattle.index_rules.proofs.PastWords.{received}
use Rattle.index_rules.proofs.PastTotals.{charge_agrees, count_agrees, has_release_agrees}
use Rattle.index_rules.proofs.Agree as agree
use Rattle.index_rules.proofs.StepUsers.{step_of_users}
use Rattle.index_rules.proofs.StepNames.{IsShaped, IsNamed, step_of_names}
use Rattle.index_rules.proofs.StepOwners.{step_of_owners, step_of_yanks}
use Rattle.index_rules.proofs.StepCases.{step_of_cases}
use Rattle.index_rules.proofs.StepFiles.{step_of_files, step_of_bodies, bans_after}

-- ---- the numbers of a name

-- in sound tables whose files are those of a history, a name with this shape has the numbers of the history
name_numbered : (T : Tables) → IsSound T → (h : History) → ((file : Bytes) → get T.files file ≡ file_after h file) → (n : Bytes)
    → IsNamed h n (get T.names n) → get T.names n ≡ name_after h n
name_numbered T sound h files n shaped = by (state_after h n) shaped
  where
    by : (s : State) → IsShaped (get T.names n) s (shown_after h n) (quota_after h n) (last_upload_after h n)
        → get T.names n ≡ record_of_state s (project_after h n)
    by Free found = found
    by Prohibited found = found
    by Held held =
        let at : held_project (get T.names n) ≡ Some held.0 = ap held_project held.1 in
        let charged : held.0.charge ≡ charge_after h n = sound.charge n held.0 at ∙ charge_agrees T h files n in
        let counted : held.0.undeleted ≡ undeleted_count_after h n = sound.undeleted n held.0 at ∙ count_agrees T h files n in
        held.1 ∙ (λ i. Some (name_record.Held (record {
          shown = held.2 i;
          quota = held.3 i;
          charge = charged i;
          undeleted = counted i;
          last_upload = held.4 i;
        })))

-- ---- one call

module _ (T : Tables) (h : History) (sound : IsSound T) (stands : StandsFor T h) where
  pub verdict_agrees : (c : Call) → verdict_now T c ≡ verdict_after h c
  verdict_agrees = agree.verdict_agrees T h sound.one_bearer stands (has_release_agrees T h stands.files) (received h)

  acts : (token : Bytes) → or_empty (option_map (λ (caller : Caller). caller.user) (option_map caller_of (bearer_in T token)))
      ≡ or_empty (bearer_after h token)
  acts token = ap or_empty (by (bearer_in T token)
      ∙ agree.who_agrees T h sound.one_bearer stands (has_release_agrees T h stands.files) (received h) token)
    where
      by : (found : Option (Bytes × UserRecord))
          → option_map (λ (caller : Caller). caller.user) (option_map caller_of found) ≡ option_map (λ user. user.0) found
      by None = refl
      by (Some user) = refl

  -- after an accepted call the tables stand for the history with it
  pub StandsFor-after : (c : Call) → verdict_now T c ≡ Accept → StandsFor (tables_with_call T c) (with_call h c)
  StandsFor-after c accepts =
      let actor : Bytes = or_empty (bearer_after h c.token) in
      let files : (file : Bytes) → get (tables_with_call T c).files file ≡ file_after (with_call h c) file =
      step_of_files T h stands.files c.at c.token actor c.request accepts in
      record {
        users = step_of_users T h stands.users c.at c.token actor c.request accepts;
        names = λ n. name_numbered (tables_with_call T c) (IsSound-after T sound c accepts) (with_call h c) files n
            (step_of_names T h stands.names c.at c.token actor c.request accepts n);
        owners = step_of_owners T h stands.names stands.cases c.at c.token actor stands.owners (acts c.token) c.request accepts;
        files = files;
        bodies = step_of_bodies T h stands.files c.at c.token actor stands.bodies c.request accepts;
        yanks = step_of_yanks T h stands.names stands.cases c.at c.token actor stands.yanks c.request accepts;
        cases = step_of_cases T h sound stands.names stands.cases c.at c.token actor (acts c.token) c.request accepts;
        bans = bans_after T h stands.files c.at c.token actor stands.bans c.request accepts;
      }

  -- who made an accepted call bears its token
  caller_there : (c : Call) → verdict_now T c ≡ Accept → bearer_after h c.token ≡ Some (or_empty (bearer_after h c.token))
  caller_there c accepts =
      by (bearer_in T c.token) ((accepted c (facts_in T c) accepts).not_refused BadToken refl)
      (agree.who_agrees T h sound.one_bearer stands (has_release_agrees T h stands.files) (received h) c.token)
    where
      by : (found : Option (Bytes × UserRecord)) → is_none (option_map caller_of found) ≡ false
          → option_map (λ user. user.0) found ≡ bearer_after h c.token → bearer_after h c.token ≡ Some (or_empty (bearer_after h c.token))
      by None missing is = absurd (true≢false missing)
      by (Some user) missing is = sym is ∙ ap (λ o. Some (or_empty o)) is

-- ---- the opening

pub StandsFor-opened : (user token : Bytes) → StandsFor (first_tables user token) (begins user token)
StandsFor-opened user token = record {
  users = λ q. get-put empty user (first_record token) q ∙ ap (cond (same q user) (Some (first_record token))) (get-empty bytes_cmp q);
  names = λ q. get-empty bytes_cmp q;
  owners = λ n u. ap is_some (get-empty pair_cmp (n, u));
  files = λ q. get-empty bytes_cmp q;
  bodies = λ q. get-empty bytes_cmp q;
  yanks = λ n r. get-empty pair_cmp (n, r);
  cases = λ q. get-empty bytes_cmp q;
  bans = λ q. ap is_some (get-empty bytes_cmp q);
}

-- ---- legal histories

-- the tables that a history makes
abbrev pub tables_of : History → Tables
tables_of (begins user token) = first_tables user token
tables_of (more h e) = tables_with_call (tables_of h) e.call

pub record IsMade (h : History) : Type 0 where
  pub sound : IsSound (tables_of h)
  pub stands : StandsFor (tables_of h) h

pub legal_made : (h : History) → IsLegal h → IsMade h
legal_made (begins user token) legal = record { sound = IsSound-opened user token; stands = StandsFor-opened user token }
legal_made (more h e) legal =
    let made = legal_made h legal.0 in
    let accepts : verdict_now (tables_of h) e.call ≡ Accept = verdict_agrees (tables_of h) h made.sound made.stands e.call ∙ legal.1 in
    record {
      sound = IsSound-after (tables_of h) made.sound e.call accepts;
      stands = subst (λ actor. StandsFor (tables_with_call (tables_of h) e.call) (more h (record { actor = actor; call = e.call })))
          (ap or_empty legal.2) (StandsFor-after (tables_of h) h made.sound made.stands e.call accepts);
    }

-- two tables that stand for one history are equal
same_tables : (h : History) (T T' : Tables) → StandsFor T h → StandsFor T' h → T ≡ T'
same_tables h T T' one other = λ i. record {
  users = same_map nat_list_cmp_total exact_bytes T.users T'.users (λ q. one.users q ∙ sym (other.users q)) i;
  names = same_map nat_list_cmp_total exact_bytes T.names T'.names (λ q. one.names q ∙ sym (other.names q)) i;
  owners = same_map pair_total exact_pair T.owners T'.owners
      (λ q. by (get T.owners q) (get T'.owners q) (one.owners q.0 q.1 ∙ sym (other.owners q.0 q.1))) i;
  files = same_map nat_list_cmp_total exact_bytes T.files T'.files (λ q. one.files q ∙ sym (other.files q)) i;
  bodies = same_map nat_list_cmp_total exact_bytes T.bodies T'.bodies (λ q. one.bodies q ∙ sym (other.bodies q)) i;
  yanks = same_map pair_total exact_pair T.yanks T'.yanks (λ q. one.yanks q.0 q.1 ∙ sym (other.yanks q.0 q.1)) i;
  cases = same_map nat_list_cmp_total exact_bytes T.cases T'.cases (λ q. one.cases q ∙ sym (other.cases q)) i;
  bans = same_map nat_list_cmp_total exact_bytes T.bans T'.bans (λ q. by (get T.bans q) (get T'.bans q) (one.bans q ∙ sym (other.bans q)))
      i;
}
  where
    by : (x y : Option (Unit {0})) → is_some x ≡ is_some y → x ≡ y
    by None None is = refl
    by None (Some u) is = absurd (false≢true is)
    by (Some u) None is = absurd (true≢false is)
    by (Some u) (Some v) is = refl

-- tables that stand for a legal history are sound
pub sound_when_legal : (h : History) → IsLegal h → (T : Tables) → StandsFor T h → IsSound T
sound_when_legal h legal T stands = let made = legal_made h legal in
    subst IsSound (same_tables h (tables_of h) T made.stands stands) made.sound

pub one_bearer_of_each : (h : History) → IsLegal h → HasOneBearerOfEach h
one_bearer_of_each h legal u v x y bears_x bears_y same_token =
    let made = legal_made h legal in
    made.sound.one_bearer u v x y (made.stands.users u ∙ bears_x) (made.stands.users v ∙ bears_y) same_token

-- ---- the theorems

pub CarriesOn-answer : (h : History) → IsLegal h → (T : Tables) → StandsFor T h → (c : Call) (answer : Answer) (T' : Tables)
    → (HasOneBearer T → Answers (verdict_now T c) answer) → (HasOneBearer T → T' ≡ tables_after T c answer) → CarriesOn h c answer T'
CarriesOn-answer h legal T stands c answer T' answers after_is =
    let sound : IsSound T = sound_when_legal h legal T stands in
    by answer (answers sound.one_bearer) (subst (λ v. Answers v answer) (verdict_agrees T h sound stands c) (answers sound.one_bearer))
    (after_is sound.one_bearer)
  where
    by : (answer : Answer) → Answers (verdict_now T c) answer → Answers (verdict_after h c) answer → T' ≡ tables_after T c answer
        → CarriesOn h c answer T'
    by Accepted now verdict is =
        let sound : IsSound T = sound_when_legal h legal T stands in
        record {
          verdict = verdict;
          legal = (legal, verdict, caller_there T h sound stands c now);
          stands = subst (λ x. StandsFor x (with_call h c)) (sym is) (StandsFor-after T h sound stands c now);
        }
    by Already now verdict is = record { verdict = verdict; legal = legal; stands = subst (λ x. StandsFor x h) (sym is) stands }
    by (Refused refusal) now verdict is = record { verdict = verdict; legal = legal; stands = subst (λ x. StandsFor x h) (sym is) stands }
    by (Fault fault) now verdict is = record { verdict = verdict; legal = legal; stands = subst (λ x. StandsFor x h) (sym is) stands }

pub CarriesOnBy-Runs : (h : History) → IsLegal h → (T : Tables) → StandsFor T h → (calls : List Call) (answers : List Answer) (T' : Tables)
    → Runs T calls answers T' → CarriesOnAll h calls answers T'
CarriesOnBy-Runs h legal T stands [] [] T' run =
    record { after = h; extends = refl; legal = legal; stands = subst (λ x. StandsFor x h) (sym run) stands }
CarriesOnBy-Runs h legal T stands [] (answer ∷ answers) T' run = absurd run
CarriesOnBy-Runs h legal T stands (call ∷ calls) [] T' run = absurd run
CarriesOnBy-Runs h legal T stands (call ∷ calls) (answer ∷ answers) T' run =
    let one : CarriesOn h call answer (tables_after T call answer) =
    CarriesOn-answer h legal T stands call answer (tables_after T call answer) (λ _. run.0) (λ _. refl) in
    let rest = CarriesOnBy-Runs (history_after h call answer) one.legal (tables_after T call answer) one.stands calls answers T' run.1 in
    record { after = rest.after; extends = (one.verdict, rest.extends); legal = rest.legal; stands = rest.stands }
