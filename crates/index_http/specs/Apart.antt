-- Replies show names apart: one about a name depends on the entries of that name alone.
use Rattle.std.specs.Prelude.{Bool, None, Option, Some, [], false, if◌then◌else◌, ℕ, ⊤, ◌&&◌, ◌++◌}
use Rattle.std.specs.Prelude.{◌∷◌, ◌≡◌, ◌⊎◌}
use Rattle.index_names.specs.FileName.{project_of}
use Rattle.index_names.specs.Project.{read_name}
use Rattle.index_rules.specs.History.{History, is_read_as}
use Rattle.index_rules.specs.Maps.{Bytes}
use Rattle.index_desk.specs.Apart.{entries_of}
use Rattle.index_desk.specs.Rules.{by_history}
use Rattle.index_message.specs.Resources.{is_reading}
use Rattle.index_message.specs.declared.message.Message.{Message}
use Rattle.index_message.specs.declared.message.Message.TheVariants.{Faulty, Whole}
use Rattle.index_message.specs.declared.resource.Resource.{Resource}
use Rattle.index_message.specs.declared.resource.Resource.TheVariants.{File, Name, Project}
use Rattle.index_message.specs.declared.resource.Resource.TheVariants.{ProjectPage, Requests, Root}
use Rattle.index_message.specs.declared.resource.Resource.TheVariants.{Simple}
use Rattle.index_http.specs.Ends.{IsFaultReply}
use Rattle.index_http.specs.Exchanges.{InputGetsText, MessageGetsText}
use Rattle.index_http.specs.Hides.{get_of_name}

-- the name that a resource is about, in its normal form: of the root page none
abbrev pub name_shown : Resource → Option Bytes
name_shown Simple = None
name_shown Root = None
name_shown (Project name) = read_name name
name_shown (ProjectPage name) = read_name name
name_shown (File file) = Some (project_of file)
name_shown (Name name) = read_name name
name_shown Requests = None

-- a message that only reads, about this name
abbrev pub looks_at : Bytes → Message → Bool
looks_at n (Faulty fault is_head) = false
looks_at n (Whole request body) =
    is_reading request.method && is_read_as (name_shown request.resource) n

-- the text of a reply to a message, by a history, at some moment and whatever failed
abbrev pub MayGetAfter : Message → History → Bytes → Type 0
MayGetAfter message h text =
    (at : ℕ) × (later : History) × MessageGetsText by_history ⊤ at h message text later

-- the text of a reply to the message that an input begins with
abbrev pub InputMayGetAfter : Bytes → History → Bytes → Type 0
InputMayGetAfter input h text =
    (at : ℕ) × (later : History) × InputGetsText by_history ⊤ at h (Some input) text later

-- the replies by two histories have the same bytes, unless one of them reports a fault
abbrev pub SameReplies : (History → Bytes → Type 0) → History → History → Type 0
SameReplies Gets h h' =
    (one other : Bytes) → Gets h one → Gets h' other
    → (one ≡ other) ⊎ (IsFaultReply one ⊎ IsFaultReply other)

-- by any two histories with the same entries of the name
abbrev pub DependsOnName : Bytes → (History → Bytes → Type 0) → Type 0
DependsOnName n Gets =
    (h h' : History) → entries_of n h ≡ entries_of n h' → SameReplies Gets h h'

-- ---- a wrong outcome

-- a byte that says whether a name is held
abbrev pub held_byte : History → Bytes → Bytes
held_byte h m = (if by_history.is_held h m then 1 else 2) ∷ []

-- the reply to a message, with the byte of a name behind it
abbrev pub MayGetBeside : Message → Bytes → History → Bytes → Type 0
MayGetBeside message m h text =
    (shown : Bytes) × MayGetAfter message h shown × (text ≡ shown ++ held_byte h m)

-- the reply with a standing depends on its name; the same with another name's byte behind it does
-- not
abbrev pub RefutesShownOthers : Type 0
RefutesShownOthers = (name other n m : Bytes)
    → read_name name ≡ Some n → read_name other ≡ Some m → (¬ (n ≡ m))
    → DependsOnName n (MayGetAfter (get_of_name name))
    × (¬ DependsOnName n (MayGetBeside (get_of_name name) m))
