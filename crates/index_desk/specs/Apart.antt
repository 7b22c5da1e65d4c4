-- Names are shown apart: what is shown of a name depends on the entries of that name alone.
use Rattle.std.specs.Prelude.{◌≡◌, ℕ, Bool, if◌then◌else◌, List, [], ◌∷◌, Option, Some}
use Rattle.index_names.specs.FileName.{project_of}
use Rattle.index_names.specs.Project.{read_name}
use Rattle.index_rules.specs.declared.call.Request.{Request}
use Rattle.index_rules.specs.declared.call.Request.TheVariants.{Claim}
use Rattle.index_rules.specs.declared.rows.FileRow.{FileRow}
use Rattle.index_rules.specs.declared.standing.Standing.{Standing}
use Rattle.index_rules.specs.Maps.{Bytes}
use Rattle.index_rules.specs.Requests.{name_key}
use Rattle.index_rules.specs.History.{History, begins, more, is_read_as}
use Rattle.index_rules.specs.Legal.{IsLegal}
use Rattle.index_rules.specs.Refuted.{entry_of}
use Rattle.index_desk.specs.Rules.{by_history}
use Rattle.index_desk.specs.Looks.{Finding}

-- The entries of a name, the newest first: the user, the moment and the request of each. Tokens are
-- left out.
abbrev pub entries_of : Bytes → History → List (Bytes × ℕ × Request)
entries_of n (begins user token) = []
entries_of n (more h e) =
    if is_read_as (name_key e.call.request) n
    then (e.actor, e.call.at, e.call.request) ∷ entries_of n h
    else entries_of n h

-- whatever is found by the one history is what is found by the other
abbrev pub FindSame : {X : Type 0} → Finding X → History → History → Type 0
FindSame {X} Holds h h' =
    (one other : X) → Holds History by_history h one → Holds History by_history h' other
    → one ≡ other

-- two histories show the same of a name: its standing, its page, and the bytes of its files
pub record ShowSame (n : Bytes) (h h' : History) : Type 0 where
  pub standing : FindSame {X = Standing} (λ S rules s. rules.Stands s n) h h'
  pub page : FindSame {X = Option (List FileRow)} (λ S rules s. rules.ProjectRows s n) h h'
  pub bytes : (f : Bytes) → project_of f ≡ n
      → FindSame {X = Option Bytes} (λ S rules s. rules.Body s f) h h'

-- ---- two histories that differ, and a wrong outcome

-- the first user claims a name
abbrev pub with_claim : Bytes → Bytes → Bytes → History → History
with_claim user token name h = more h (entry_of user token 0 (Claim name))

-- the standing of a name, with whether another name is held behind it
abbrev pub StandsBeside : Bytes → Bytes → Finding (Standing × Bool)
StandsBeside n m S rules s found = rules.Stands s n found.0 × (found.1 ≡ rules.is_held s m)

-- Two legal histories differ in another name, and the entries of a name are the same. So is its
-- standing; the same with the other name's state behind it is not.
pub record RefutesOther (n m : Bytes) (h h' : History) : Type 0 where
  pub legal : IsLegal h
  pub legal_too : IsLegal h'
  pub agree : entries_of n h ≡ entries_of n h'
  pub differ : ¬ (by_history.is_held h m ≡ by_history.is_held h' m)
  pub right : FindSame {X = Standing} (λ S rules s. rules.Stands s n) h h'
  pub wrong : ¬ FindSame (StandsBeside n m) h h'

-- so it is where a name is claimed, and another name before it or not
abbrev pub RefutesOthers : Type 0
RefutesOthers = (user token name other n m : Bytes)
    → read_name name ≡ Some n → read_name other ≡ Some m → (¬ (n ≡ m))
    → RefutesOther n m (with_claim user token name (begins user token))
    (with_claim user token name (with_claim user token other (begins user token)))
