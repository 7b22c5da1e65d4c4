-- What a reply shows of users and of their tokens: nothing, if its message makes no call.
use Rattle.std.specs.Prelude.{Bool, Some, [], is_some, not, ℕ, ⊤, ◌++◌, ◌≡◌, ◌⊎◌}
use Rattle.std.specs.Option.{option_map_or}
use Rattle.std.specs.FinMap.{get}
use Rattle.index_names.specs.Project.{read_name}
use Rattle.index_rules.specs.declared.records.UserRecord.{UserRecord}
use Rattle.index_rules.specs.Looks.{with_users}
use Rattle.index_rules.specs.Maps.{Bytes, Map}
use Rattle.index_rules.specs.Tables.{Tables}
use Rattle.index_desk.specs.Rules.{by_tables}
use Rattle.index_message.specs.declared.message.Message.{Message}
use Rattle.index_message.specs.declared.message.Message.TheVariants.{Whole}
use Rattle.index_message.specs.declared.resource.Method.TheVariants.{Get}
use Rattle.index_message.specs.declared.resource.Resource.TheVariants.{Name}
use Rattle.index_http.specs.Asks.{call_in}
use Rattle.index_http.specs.Ends.{IsFaultReply}
use Rattle.index_http.specs.Exchanges.{InputGetsText, MessageGetsText}

-- a message that makes no call: it only reads, or it is not served
abbrev pub makes_no_call : Message → Bool
makes_no_call message = not (is_some (call_in 0 message))

-- the text of a reply to a message, by tables, at some moment and whatever failed
abbrev pub MayGet : Message → Tables → Bytes → Type 0
MayGet message T text =
    (at : ℕ) × (later : Tables) × MessageGetsText by_tables ⊤ at T message text later

-- the text of a reply to the message that an input begins with
abbrev pub InputMayGet : Bytes → Tables → Bytes → Type 0
InputMayGet input T text =
    (at : ℕ) × (later : Tables) × InputGetsText by_tables ⊤ at T (Some input) text later

-- Whoever the users are and whatever tokens they have, the replies by the tables have the same
-- bytes, unless one of them reports a fault.
abbrev pub HidesTokens : (Tables → Bytes → Type 0) → Type 0
HidesTokens Gets = (users : Map UserRecord) (T : Tables) (one other : Bytes)
    → Gets T one → Gets (with_users users T) other
    → (one ≡ other) ⊎ (IsFaultReply one ⊎ IsFaultReply other)

-- ---- a wrong outcome

-- a `GET` of the standing of a name
abbrev pub get_of_name : Bytes → Message
get_of_name name = Whole (record { method = Get; resource = Name name; fields = [] }) []

-- the digest of a user's token
abbrev pub token_of_user : Tables → Bytes → Bytes
token_of_user T user = option_map_or (λ known. known.token) (get T.users user) []

-- the reply to a message, with the digest of a user's token behind it
abbrev pub MayGetToken : Message → Bytes → Tables → Bytes → Type 0
MayGetToken message user T text =
    (shown : Bytes) × MayGet message T shown × (text ≡ shown ++ token_of_user T user)

-- the reply with a standing hides all tokens; the same with a digest of one behind it does not
abbrev pub RefutesShownTokens : Type 0
RefutesShownTokens = (name n user : Bytes) → read_name name ≡ Some n
    → HidesTokens (MayGet (get_of_name name))
    × (¬ HidesTokens (MayGetToken (get_of_name name) user))
