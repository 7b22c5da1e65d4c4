-- Verdicts on a history, legal histories, and calls in a row.
use Rattle.std.specs.Prelude.{◌≡◌, false, List, Some, option_map, option_and_then}
use Rattle.std.specs.Option.{option_map_or}
use Rattle.index_rules.specs.declared.call.Call.{Call}
use Rattle.index_rules.specs.declared.answer.Answer.{Answer}
use Rattle.index_rules.specs.declared.answer.Answer.TheVariants as answer
use Rattle.index_rules.specs.declared.view.Caller.{Caller}
use Rattle.index_rules.specs.Maps.{Bytes}
use Rattle.index_rules.specs.Tables.{Tables}
use Rattle.index_rules.specs.Requests.{user_key, token_key, name_key, file_key, release_key}
use Rattle.index_rules.specs.Facts.{Facts, of_both, at_both}
use Rattle.index_rules.specs.Verdict.{Verdict, Accept, verdict_on}
use Rattle.index_rules.specs.Effect.{or_empty}
use Rattle.index_rules.specs.Runs.{Answers, RunsOver}
use Rattle.index_rules.specs.History.{History, begins, more}
use Rattle.index_rules.specs.PastUsers.{user_after, bearer_after}
use Rattle.index_rules.specs.PastNames.{owns_after, owns_alone_after, yank_after}
use Rattle.index_rules.specs.PastFiles.{is_banned_after, has_release_after}
use Rattle.index_rules.specs.StandsFor.{StandsFor, name_after, file_after, case_record_after}

-- the user as a caller, with the user's office flag
abbrev pub caller_after : History → Bytes → Caller
caller_after h user = record {
  user = user;
  office = option_map_or (λ account. account.office) (user_after h user) false;
}

-- the facts that a history has for a call, whose caller is the user who has its token
abbrev pub facts_after : History → Call → Facts
facts_after h call = record {
  caller = option_map (caller_after h) (bearer_after h call.token);
  user = option_and_then (user_after h) (user_key call.request);
  bearer = option_and_then (bearer_after h) (token_key call.request);
  name = option_and_then (name_after h) (name_key call.request);
  owns = of_both (owns_after h) (name_key call.request) (bearer_after h call.token);
  named_owns = of_both (owns_after h) (name_key call.request) (user_key call.request);
  sole = of_both (owns_alone_after h) (name_key call.request) (user_key call.request);
  file = option_and_then (file_after h) (file_key call.request);
  is_banned = option_map_or (is_banned_after h) (file_key call.request) false;
  yank = at_both (yank_after h) (name_key call.request) (release_key call.request);
  has_release = of_both (has_release_after h) (name_key call.request) (release_key call.request);
  case = option_and_then (case_record_after h) (name_key call.request);
}

-- the verdict on a call after a history: the rules are those of the verdict on tables, and only the
-- facts are read off the history
abbrev pub verdict_after : History → Call → Verdict
verdict_after h call = verdict_on call (facts_after h call)

-- the history with a call as its newest entry, made by the user who has its token
abbrev pub with_call : History → Call → History
with_call h call = more h (record { actor = or_empty (bearer_after h call.token); call = call })

-- each entry was accepted after the entries before it, and its actor had its token there; the
-- opening alone is legal
abbrev pub IsLegal : History → Type 0
IsLegal (begins user token) = Unit {0}
IsLegal (more h e) =
    IsLegal h × (verdict_after h e.call ≡ Accept) × (bearer_after h e.call.token ≡ Some e.actor)

-- ---- calls in a row

-- the history after a call: an accepted call is appended, and no other
abbrev pub history_after : History → Call → Answer → History
history_after h call answer.Accepted = with_call h call
history_after h call answer.Already = h
history_after h call (answer.Refused refusal) = h
history_after h call (answer.Fault fault) = h

-- each answer is the verdict in the history so far or a fault, and exactly the accepted calls are
-- appended, in order
abbrev pub Extends : History → List Call → List Answer → History → Type 0
Extends = RunsOver verdict_after history_after

-- what is proved of one call: the answer is right, and the tables stand for the history that it
-- leads to, which is legal
pub record CarriesOn (h : History) (call : Call) (answer : Answer) (T' : Tables) : Type 0 where
  pub verdict : Answers (verdict_after h call) answer
  pub legal : IsLegal (history_after h call answer)
  pub stands : StandsFor T' (history_after h call answer)

-- what is proved of calls in a row: each answer is right, and the tables stand for the history that
-- they lead to, which is legal
pub record CarriesOnAll (h : History) (calls : List Call) (answers : List Answer)
    (T' : Tables) : Type 0 where
  pub after : History
  pub extends : Extends h calls answers after
  pub legal : IsLegal after
  pub stands : StandsFor T' after
