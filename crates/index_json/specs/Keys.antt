-- The keys of requests and lines as JSON objects, and the value at each.
use Rattle.std.specs.Prelude.{◌≡◌, ◌↔◌, ℕ, ◌≤◌, Bool, List, [], ◌∷◌, map, Option, Some, bytes_eq}
use Rattle.std.specs.Prelude.{codes, ⊤}
use Rattle.std.specs.Set.{distinct_count}
use Rattle.serde_json.specs.Data.{Data}
use Rattle.index_digest.specs.Digest.{sha256}
use Rattle.index_retention.specs.declared.attempts.Means.{Means}
use Rattle.index_retention.specs.declared.attempts.Means.TheVariants.{Profile, Author, Pages}
use Rattle.index_rules.specs.declared.call.Request.{Request}
use Rattle.index_rules.specs.declared.call.Request.TheVariants.{AddUser, SetToken, SetQuota, Claim}
use Rattle.index_rules.specs.declared.call.Request.TheVariants.{AddOwner, RemoveOwner, Upload}
use Rattle.index_rules.specs.declared.call.Request.TheVariants.{Delete, BanFile, Yank, Unyank}
use Rattle.index_rules.specs.declared.call.Request.TheVariants.{Relinquish, Prohibit, Allow}
use Rattle.index_rules.specs.declared.call.Request.TheVariants.{OpenCase, RecordAttempt, Transfer}
use Rattle.index_rules.specs.declared.call.Request.TheVariants.{CloseCase, AnswerCase}
use Rattle.index_json.specs.Json.{flag_at, hex_bytes, json_of, key_count, number_at, text_at}
use Rattle.index_json.specs.StandingText.{kind_text}
use Rattle.index_json.specs.declared.line.Line.{Line}
use Rattle.index_json.specs.declared.line.Line.TheVariants as line

-- the value at a key: a text, true or false, a whole number of 64 bits, or bytes in hex digits
pub data MemberValue : Type 0 where
  text : List ℕ → MemberValue
  flag : Bool → MemberValue
  number : ℕ → MemberValue
  hex : List ℕ → MemberValue

-- a key and its value
abbrev pub Member : Type 0
Member = List ℕ × MemberValue

-- ---- the rows

-- the word for a means
abbrev pub means_text : Means → List ℕ
means_text Profile = codes "profile"
means_text Author = codes "author"
means_text Pages = codes "pages"

-- the member `do`, with the word of a row
abbrev pub does : List ℕ → Member
does word = (codes "do", text word)

-- the member with the name of a project
abbrev pub named : List ℕ → Member
named name = (codes "name", text name)

-- the members of a request
abbrev pub members_of : Request → List Member
members_of (AddUser user office token) =
    does (codes "add_user") ∷ (codes "user", text user) ∷ (codes "office", flag office)
    ∷ (codes "token_sha256", text token) ∷ []
members_of (SetToken user token) =
    does (codes "set_token") ∷ (codes "user", text user) ∷ (codes "token_sha256", text token) ∷ []
members_of (SetQuota name quota) =
    does (codes "set_quota") ∷ named name ∷ (codes "quota", number quota) ∷ []
members_of (Claim name) = does (codes "claim") ∷ named name ∷ []
members_of (Relinquish name) = does (codes "relinquish") ∷ named name ∷ []
members_of (Prohibit name) = does (codes "prohibit") ∷ named name ∷ []
members_of (Allow name) = does (codes "allow") ∷ named name ∷ []
members_of (AddOwner name user) =
    does (codes "add_owner") ∷ named name ∷ (codes "user", text user) ∷ []
members_of (RemoveOwner name user) =
    does (codes "remove_owner") ∷ named name ∷ (codes "user", text user) ∷ []
members_of (Upload file sha256 body requires) =
    does (codes "upload") ∷ (codes "file", text file) ∷ (codes "sha256", text sha256)
    ∷ (codes "hex", hex body) ∷ (codes "requires_python", text requires) ∷ []
members_of (Delete file) = does (codes "delete") ∷ (codes "file", text file) ∷ []
members_of (BanFile file) = does (codes "ban_file") ∷ (codes "file", text file) ∷ []
members_of (Yank name release reason) =
    does (codes "yank") ∷ named name ∷ (codes "release", text release)
    ∷ (codes "reason", text reason) ∷ []
members_of (Unyank name release) =
    does (codes "unyank") ∷ named name ∷ (codes "release", text release) ∷ []
members_of (OpenCase name kind contact work why) =
    does (codes "open_case") ∷ named name ∷ (codes "kind", text (kind_text kind))
    ∷ (codes "contact", text contact) ∷ (codes "work", text work) ∷ (codes "why", text why) ∷ []
members_of (RecordAttempt name means sent) =
    does (codes "record_attempt") ∷ named name ∷ (codes "means", text (means_text means))
    ∷ (codes "sent", flag sent) ∷ []
members_of (Transfer name quiet) =
    does (codes "transfer") ∷ named name ∷ (codes "quiet", flag quiet) ∷ []
members_of (CloseCase name) = does (codes "close_case") ∷ named name ∷ []
members_of (AnswerCase name) = does (codes "answer_case") ∷ named name ∷ []

-- the members of a call by the bearer of this token
abbrev pub members_at : ℕ → List ℕ → Request → List Member
members_at at token request =
    (codes "at", number at) ∷ (codes "token", text token) ∷ members_of request

-- the members of a line that asks for a standing
abbrev pub members_of_standing : List ℕ → List Member
members_of_standing name = does (codes "standing") ∷ named name ∷ []

-- ---- objects

-- the object has this value at a key
abbrev pub Says : Data → List ℕ → MemberValue → Type 0
Says value key (text bytes) = text_at key value ≡ Some bytes
Says value key (flag is) = flag_at key value ≡ Some is
Says value key (number n) = number_at key value ≡ Some n
Says value key (hex bytes) =
    (digits : List ℕ) × (text_at key value ≡ Some digits) × (hex_bytes digits ≡ Some bytes)

-- the object has each of these members
abbrev pub SaysEach : Data → List Member → Type 0
SaysEach value [] = ⊤
SaysEach value ((key, field) ∷ more) = Says value key field × SaysEach value more

-- the number of different keys
abbrev pub distinct_key_count : List Member → ℕ
distinct_key_count keys = distinct_count bytes_eq (map (λ one. one.0) keys)

-- an object with exactly these keys, in any order
pub record HasKeys (value : Data) (keys : List Member) : Type 0 where
  pub each : SaysEach value keys
  pub no_more : key_count value ≤ distinct_key_count keys

-- an object with the keys of a line: of a call, whose token is kept as its digest, or of a standing
abbrev pub IsLine : Data → Line → Type 0
IsLine value (line.Call call) =
    (token : List ℕ) × (call.token ≡ sha256 token)
    × HasKeys value (members_at call.at token call.request)
IsLine value (line.Standing name) = HasKeys value (members_of_standing name)

-- ---- what bytes ask for

-- JSON whose value passes a test
abbrev pub IsJson : List ℕ → (Data → Type 0) → Type 0
IsJson bytes IsOne = (value : Data) × (json_of bytes ≡ Some value) × IsOne value

-- the request that has the keys of the bytes, or nothing if none has
abbrev pub SaysRequest : List ℕ → Option Request → Type 0
SaysRequest bytes read =
    (request : Request) → (read ≡ Some request)
    ↔ IsJson bytes (λ value. HasKeys value (members_of request))

-- the line that has the keys of the bytes, or nothing if none has
abbrev pub SaysLine : List ℕ → Option Line → Type 0
SaysLine bytes read =
    (asked : Line) → (read ≡ Some asked) ↔ IsJson bytes (λ value. IsLine value asked)
