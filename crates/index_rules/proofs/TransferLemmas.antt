-- In a legal history each transfer was ready: the case was open and unanswered, and nothing stood against the transfer.
use Rattle.index_rules.proofs.Words.{◌≡◌, ◌⊎◌, inl, inr, ℕ, ◌+◌, ◌≤◌, Bool, true, false, cond, not, ◌&&◌, ◌||◌, refl, sym, ap, ◌∙◌, subst}
use Rattle.index_rules.proofs.Words.{List, [], ◌∷◌, Option, Some, None, is_some, is_none, option_map, option_and_then, arith, option_or}
use Rattle.index_rules.proofs.Words.{option_map_or, false≢true, true≢false, ltb-false, and_parts, or_parts, not-false, read_name, Attempt}
use Rattle.index_rules.proofs.Words.{attempt_of, tally_of, attempts_are_counted, HomePageActive, NoCase, NoProject, RecentRelease, TooEarly}
use Rattle.index_rules.proofs.Words.{TooFewAttempts, Call, Request, OpenCase, RecordAttempt, CloseCase, Transfer, Prohibit, Bytes, same}
use Rattle.index_rules.proofs.Words.{Accept, held_project, is_held, History, begins, more, is_read_as, State, Free, Held, Prohibited}
use Rattle.index_rules.proofs.Words.{state_after, is_held_now, is_given_after, last_upload_after, Case, with_attempt, case_by, case_after}
use Rattle.index_rules.proofs.Words.{is_owners_request, record_of_state, project_after, name_after, record_of_case, case_record_after}
use Rattle.index_rules.proofs.Words.{IsLegal, verdict_after, facts_after}
use Rattle.std.proofs.Common.{nat_lt}
use Rattle.std.specs.Option.{IsSomeAnd, IfSome}
use Rattle.index_retention.specs.declared.fault.CaseFault.{CaseFault}
use Rattle.index_retention.specs.declared.fault.CaseFault.TheVariants as case_fault
use Rattle.index_retention.specs.Attempts.{Tally, tally_with}
use Rattle.index_retention.specs.Transfer.{fewest_sent, six_weeks, twelve_months, too_few_attempts, too_early, recent_release}
use Rattle.index_retention.specs.Transfer.{stands_against, IsReady}
use Rattle.index_rules.specs.PastCases.{opens_case, is_unanswered_after}
use Rattle.index_rules.specs.Laws.{WasReady, TransferWasReady, TransfersWereReady}
use Rattle.index_rules.proofs.Accepted.{accepted}
use Rattle.index_rules.proofs.KeyLemmas.{same-refl}

-- ---- an open case is unanswered

module _ (n : Bytes) (before : Option Case) (unanswered : Bool) (was : is_some before ≡ true → unanswered ≡ true) where
  still_open : (b : Bool) → is_some (cond b None before) ≡ true → (not b && unanswered) ≡ true
  still_open true there = absurd (false≢true there)
  still_open false there = was there

  was_open : (b : Bool) → is_some (cond b None before) ≡ true → unanswered ≡ true
  was_open true there = absurd (false≢true there)
  was_open false there = was there

  open_before : (change : Case → Case) (b : Bool) (old : Option Case) → is_some (cond b (option_map change old) old) ≡ true
      → is_some old ≡ true
  open_before change b (Some case) there = refl
  open_before change true None there = there
  open_before change false None there = there

  newly_open : (case : Case) (b : Bool) → is_some (cond b (Some case) before) ≡ true → (b || unanswered) ≡ true
  newly_open case true there = refl
  newly_open case false there = was there

  unanswered_by : (r : Request) (actor : Bytes) (at : ℕ) → is_some (case_by r actor at n before) ≡ true
      → (opens_case r n || (not (is_owners_request r n) && unanswered)) ≡ true
  unanswered_by (OpenCase name kind contact work why) actor at there =
      newly_open (record { kind = kind; candidate = actor; contact = contact; work = work; why = why; opened = at; attempts = [] })
      (is_read_as (read_name name) n) there
  unanswered_by (RecordAttempt name means sent) actor at there =
      was (open_before (with_attempt (attempt_of means sent at)) (is_read_as (read_name name) n) before there)
  unanswered_by (CloseCase name) actor at there = was_open (is_read_as (read_name name) n) there
  unanswered_by (Transfer name quiet) actor at there = was_open (is_read_as (read_name name) n) there
  unanswered_by (Prohibit name) actor at there = was_open (is_read_as (read_name name) n) there
  unanswered_by r actor at there = still_open (is_owners_request r n) there

-- in every history
unanswered_open : (h : History) (n : Bytes) → is_some (case_after h n) ≡ true → is_unanswered_after h n ≡ true
unanswered_open (begins user token) n there = absurd (false≢true there)
unanswered_open (more h e) n there = unanswered_by n (case_after h n) (is_unanswered_after h n) (unanswered_open h n)
    e.call.request e.actor e.call.at there

-- ---- a case with a sent attempt has the moment of the first

abbrev HasFirst : Tally → Type 0
HasFirst tally = (tally.sent ≡ 0) ⊎ (is_some tally.first ≡ true)

HasFirst-noted : (tally : Tally) (attempt : Attempt) → HasFirst tally → HasFirst (tally_with tally attempt)
HasFirst-noted tally attempt has = by tally.sent tally.first attempt.sent has
  where
    by : (count : ℕ) (first : Option ℕ) (sent : Bool) → (count ≡ 0) ⊎ (is_some first ≡ true)
        → ((count + cond sent 1 0) ≡ 0) ⊎ (is_some (option_or first (cond sent (Some attempt.at) None)) ≡ true)
    by count (Some at) sent has = inr refl
    by count None true has = inr refl
    by count None false (inl none) = inl (omega (arith, none))
    by count None false (inr some) = absurd (false≢true some)

HasFirst-tally : (attempts : List Attempt) → HasFirst (tally_of attempts)
unfolding tally_of
HasFirst-tally [] = inl refl
HasFirst-tally (attempt ∷ attempts) = subst HasFirst (sym (attempts_are_counted attempt attempts))
    (HasFirst-noted (tally_of attempts) attempt (HasFirst-tally attempts))

-- ---- what nothing stands against is ready

waited_from : (tally : Tally) (at : ℕ) → HasFirst tally → fewest_sent ≤ tally.sent → too_early tally at ≡ false
    → IsSomeAnd tally.first (λ first. first + six_weeks ≤ at)
waited_from tally at has sent early = by tally.first has early
  where
    by : (first : Option ℕ) → (tally.sent ≡ 0) ⊎ (is_some first ≡ true)
        → option_map_or (λ first. nat_lt at (first + six_weeks)) first false ≡ false → IsSomeAnd first (λ first. first + six_weeks ≤ at)
    by (Some first) has early = ltb-false at (first + six_weeks) early
    by None (inl none) early = absurd (omega (arith, none, sent))
    by None (inr some) early = absurd (false≢true some)

no_release_from : (last : Option ℕ) (at : ℕ) → recent_release last at ≡ false → IfSome last (λ uploaded. uploaded + twelve_months ≤ at)
no_release_from None at recent = tt
no_release_from (Some uploaded) at recent = ltb-false at (uploaded + twelve_months) recent

ready_from : (tally : Tally) (last : Option ℕ) (quiet : Bool) (at : ℕ) → HasFirst tally
    → too_few_attempts tally ≡ false → too_early tally at ≡ false → recent_release last at ≡ false → not quiet ≡ false
    → IsReady tally last quiet at
ready_from tally last quiet at has few early recent active =
    let parts = or_parts _ _ few in
    let means = and_parts _ _ (not-false _ parts.1) in
    let sent : fewest_sent ≤ tally.sent = ltb-false tally.sent fewest_sent parts.0 in
    record {
      sent = sent;
      profile = (and_parts _ _ means.0).0;
      author = (and_parts _ _ means.0).1;
      pages = means.1;
      waited = waited_from tally at has sent early;
      no_release = no_release_from last at recent;
      quiet_page = not-false quiet active;
    }

-- ---- an accepted transfer

case_there : (o : Option Case) → is_none (option_map record_of_case o) ≡ false → (case : Case) × (o ≡ Some case)
case_there None missing = absurd (true≢false missing)
case_there (Some case) missing = (case, refl)

state_there : (h : History) (n : Bytes) (state : State) → not (is_held (record_of_state state (project_after h n))) ≡ false → state ≡ Held
state_there h n Free missing = absurd (true≢false missing)
state_there h n Held missing = refl
state_there h n Prohibited missing = absurd (true≢false missing)

ready_then : (h : History) (actor token : Bytes) (at : ℕ) (name : Bytes) (quiet : Bool) (n : Bytes) → read_name name ≡ Some n
    → verdict_after h (record { at = at; token = token; request = Transfer name quiet }) ≡ Accept
    → WasReady h (record { actor = actor; call = record { at = at; token = token; request = Transfer name quiet } }) n quiet
ready_then h actor token at name quiet n reads accepts =
    let c : Call = record { at = at; token = token; request = Transfer name quiet } in
    let all = accepted c (facts_after h c) accepts in
    let there = case_there (case_after h n) (sym (ap (λ read. is_none (option_and_then (case_record_after h) read)) reads)
    ∙ all.not_refused NoCase refl) in
    let held : state_after h n ≡ Held = state_there h n (state_after h n)
    (sym (ap (λ read. not (is_held (option_and_then (name_after h) read))) reads) ∙ all.not_refused NoProject refl) in
    let against : Option Bytes → CaseFault → Bool = λ read fault.
    option_map_or (λ case. option_map_or (λ project. stands_against case.state project.last_upload quiet at fault)
    (held_project (option_and_then (name_after h) read)) false) (option_and_then (case_record_after h) read) false in
    let nothing : (fault : CaseFault) → against (read_name name) fault ≡ false
    → stands_against (tally_of there.0.attempts) (last_upload_after h n) quiet at fault ≡ false = λ fault none.
    sym ((λ i. against (reads i) fault)
    ∙ (λ i. option_map_or (λ case. option_map_or (λ project. stands_against case.state project.last_upload quiet at fault)
    (held_project (record_of_state (held i) (project_after h n))) false) (option_map record_of_case (there.1 i)) false))
    ∙ none in
    record {
      case = there.0;
      is_open = there.1;
      ready = ready_from (tally_of there.0.attempts) (last_upload_after h n) quiet at (HasFirst-tally there.0.attempts)
          (nothing case_fault.TooFewAttempts (all.not_refused TooFewAttempts refl))
          (nothing case_fault.TooEarly (all.not_refused TooEarly refl))
          (nothing case_fault.RecentRelease (all.not_refused RecentRelease refl))
          (nothing case_fault.HomePageActive (all.not_refused HomePageActive refl));
      unanswered = unanswered_open h n (ap is_some there.1);
      owners = λ u. (λ i. is_held_now (held i)
          && cond (is_read_as (reads i) n) (is_read_as (option_map (λ case. case.candidate) (there.1 i)) u) (is_given_after h n u))
          ∙ ap (λ b. cond b (same u there.0.candidate) (is_given_after h n u)) (same-refl n);
      quota = refl;
      yanks = λ r. refl;
    }

transfer_was_ready : (r : Request) (h : History) (actor token : Bytes) (at : ℕ)
    → verdict_after h (record { at = at; token = token; request = r }) ≡ Accept
    → TransferWasReady r h (record { actor = actor; call = record { at = at; token = token; request = r } })
transfer_was_ready (Transfer name quiet) h actor token at accepts = λ n reads. ready_then h actor token at name quiet n reads accepts
transfer_was_ready r h actor token at accepts = tt

pub transfers_were_ready : (h : History) → IsLegal h → TransfersWereReady h
transfers_were_ready (begins user token) legal = tt
transfers_were_ready (more h e) legal = (
  transfers_were_ready h legal.0,
  transfer_was_ready e.call.request h e.actor e.call.token e.call.at legal.1,
)
