-- What a client gets that asks again, since it did not see the answer.
use Rattle.std.specs.Prelude.{◌≡◌, ℕ, Bool, true, false, not, nat_lt}
use Rattle.index_rules.specs.declared.call.Call.{Call}
use Rattle.index_rules.specs.declared.call.Request.{Request}
use Rattle.index_rules.specs.declared.call.Request.TheVariants.{SetToken, RemoveOwner, Relinquish}
use Rattle.index_rules.specs.declared.call.Request.TheVariants.{OpenCase, RecordAttempt, Transfer}
use Rattle.index_rules.specs.declared.call.Request.TheVariants.{CloseCase, AnswerCase}
use Rattle.index_rules.specs.Maps.{Bytes}
use Rattle.index_rules.specs.Users.{read_user}
use Rattle.index_rules.specs.History.{History, Entry, begins, more, is_read_as}
use Rattle.index_rules.specs.Legal.{verdict_after}
use Rattle.index_rules.specs.Verdict.{AlreadySo, last_moment}

-- whether a request can be repeated by the user who made it: six are done once, and whoever set his
-- own token or gave up a name has lost the right to ask again
abbrev pub is_repeatable : Request → Bytes → Bool
is_repeatable (SetToken user token) actor = not (is_read_as (read_user user) actor)
is_repeatable (RemoveOwner name user) actor = not (is_read_as (read_user user) actor)
is_repeatable (Relinquish name) actor = false
is_repeatable (OpenCase name kind contact work why) actor = false
is_repeatable (RecordAttempt name means sent) actor = false
is_repeatable (Transfer name quiet) actor = false
is_repeatable (CloseCase name) actor = false
is_repeatable (AnswerCase name) actor = false
is_repeatable request actor = true

-- a call that is made again at another moment
abbrev pub made_again : Call → ℕ → Call
made_again call at = record call { at = at }

-- the entry's call, if it can be repeated and is made again right after, is already so
abbrev pub RepeatIsAlready : History → Entry → Type 0
RepeatIsAlready h e =
    is_repeatable e.call.request e.actor ≡ true
    → (at : ℕ) → nat_lt last_moment at ≡ false
    → verdict_after (more h e) (made_again e.call at) ≡ AlreadySo

-- so with each entry of the history
abbrev pub RepeatsAreAlready : History → Type 0
RepeatsAreAlready (begins user token) = Unit {0}
RepeatsAreAlready (more h e) = RepeatsAreAlready h × RepeatIsAlready h e
