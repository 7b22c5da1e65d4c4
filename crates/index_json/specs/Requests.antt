-- The rows of requests: a key `do` with the row's word, and the row's own keys.
use Rattle.std.specs.Prelude.{ℕ, List, if◌then◌else◌, Option, Some, None, bytes_eq, codes}
use Rattle.std.specs.Prelude.{option_and_then}
use Rattle.index_retention.specs.declared.attempts.CaseKind.{CaseKind}
use Rattle.index_retention.specs.declared.attempts.CaseKind.TheVariants.{Continue, Reuse}
use Rattle.index_retention.specs.declared.attempts.Means.{Means}
use Rattle.index_retention.specs.declared.attempts.Means.TheVariants.{Profile, Author, Pages}
use Rattle.index_rules.specs.declared.call.Request.{Request}
use Rattle.index_rules.specs.declared.call.Request.TheVariants.{AddUser, SetToken, SetQuota, Claim}
use Rattle.index_rules.specs.declared.call.Request.TheVariants.{AddOwner, RemoveOwner, Upload}
use Rattle.index_rules.specs.declared.call.Request.TheVariants.{Delete, BanFile, Yank, Unyank}
use Rattle.index_rules.specs.declared.call.Request.TheVariants.{Relinquish, Prohibit, Allow}
use Rattle.index_rules.specs.declared.call.Request.TheVariants.{OpenCase, RecordAttempt, Transfer}
use Rattle.index_rules.specs.declared.call.Request.TheVariants.{CloseCase, AnswerCase}
use Rattle.index_json.specs.Json.{hex_bytes, json_of}
use Rattle.index_json.specs.Reading.{Reading, ◌>>=◌, always, flag, maybe, number, read_whole, text}
use Rattle.index_json.specs.Reading.{texts}

-- ---- rows on users

-- the row of each request, with the keys that docs/reference/FORMATS.md lists
abbrev pub add_user_row : Reading Request
add_user_row = do
  office ← flag (codes "office")
  found ← texts (codes "user") (codes "token_sha256")
  always (AddUser found.0 office found.1)

abbrev pub set_token_row : Reading Request
set_token_row = do
  found ← texts (codes "user") (codes "token_sha256")
  always (SetToken found.0 found.1)

-- ---- rows on names

-- the row of a request on a name
abbrev pub name_request : (List ℕ → Request) → Reading Request
name_request request = do
  name ← text (codes "name")
  always (request name)

-- the row of a request on a name and a user
abbrev pub owner_request : (List ℕ → List ℕ → Request) → Reading Request
owner_request request = do
  found ← texts (codes "name") (codes "user")
  always (request found.0 found.1)

abbrev pub set_quota_row : Reading Request
set_quota_row = do
  quota ← number (codes "quota")
  name ← text (codes "name")
  always (SetQuota name quota)

-- ---- rows on files

-- reads the bytes at a key, in hex digits
abbrev pub body : Reading (List ℕ)
body = do
  digits ← text (codes "hex")
  maybe (hex_bytes digits)

abbrev pub upload_row : Reading Request
upload_row = do
  body ← body
  requires ← text (codes "requires_python")
  found ← texts (codes "file") (codes "sha256")
  always (Upload found.0 found.1 body requires)

abbrev pub delete_row : Reading Request
delete_row = do
  file ← text (codes "file")
  always (Delete file)

abbrev pub ban_file_row : Reading Request
ban_file_row = do
  file ← text (codes "file")
  always (BanFile file)

abbrev pub yank_row : Reading Request
yank_row = do
  reason ← text (codes "reason")
  found ← texts (codes "name") (codes "release")
  always (Yank found.0 found.1 reason)

abbrev pub unyank_row : Reading Request
unyank_row = do
  found ← texts (codes "name") (codes "release")
  always (Unyank found.0 found.1)

-- ---- rows on retention cases

-- the kind of a case with this word
abbrev pub case_kind_of : List ℕ → Option CaseKind
case_kind_of word =
    if bytes_eq word (codes "continue") then Some Continue
    else if bytes_eq word (codes "reuse") then Some Reuse
    else None

-- the means of an attempt with this word
abbrev pub means_of : List ℕ → Option Means
means_of word =
    if bytes_eq word (codes "profile") then Some Profile
    else if bytes_eq word (codes "author") then Some Author
    else if bytes_eq word (codes "pages") then Some Pages
    else None

-- reads the kind of a case
abbrev pub case_kind : Reading CaseKind
case_kind = do
  word ← text (codes "kind")
  maybe (case_kind_of word)

-- reads the means of an attempt
abbrev pub attempt_means : Reading Means
attempt_means = do
  word ← text (codes "means")
  maybe (means_of word)

abbrev pub open_case_row : Reading Request
open_case_row = do
  kind ← case_kind
  found ← texts (codes "name") (codes "contact")
  more ← texts (codes "work") (codes "why")
  always (OpenCase found.0 kind found.1 more.0 more.1)

abbrev pub record_attempt_row : Reading Request
record_attempt_row = do
  means ← attempt_means
  sent ← flag (codes "sent")
  name ← text (codes "name")
  always (RecordAttempt name means sent)

abbrev pub transfer_row : Reading Request
transfer_row = do
  quiet ← flag (codes "quiet")
  name ← text (codes "name")
  always (Transfer name quiet)

-- ---- the row of a word

-- the row of a request on cases, by the word at `do`
abbrev pub request_on_case : List ℕ → Reading Request
request_on_case word = λ object.
    if bytes_eq word (codes "open_case") then open_case_row object
    else if bytes_eq word (codes "record_attempt") then record_attempt_row object
    else if bytes_eq word (codes "transfer") then transfer_row object
    else if bytes_eq word (codes "close_case") then name_request CloseCase object
    else if bytes_eq word (codes "answer_case") then name_request AnswerCase object
    else None

-- the row of a request on files or releases, or as in `request_on_case`, by the word at `do`
abbrev pub request_on_file : List ℕ → Reading Request
request_on_file word = λ object.
    if bytes_eq word (codes "upload") then upload_row object
    else if bytes_eq word (codes "delete") then delete_row object
    else if bytes_eq word (codes "ban_file") then ban_file_row object
    else if bytes_eq word (codes "yank") then yank_row object
    else if bytes_eq word (codes "unyank") then unyank_row object
    else request_on_case word object

-- the row of a request on owners, or as in `request_on_file`, by the word at `do`
abbrev pub request_on_owner : List ℕ → Reading Request
request_on_owner word = λ object.
    if bytes_eq word (codes "claim") then name_request Claim object
    else if bytes_eq word (codes "relinquish") then name_request Relinquish object
    else if bytes_eq word (codes "add_owner") then owner_request AddOwner object
    else if bytes_eq word (codes "remove_owner") then owner_request RemoveOwner object
    else request_on_file word object

-- the row of a request on names, or as in `request_on_owner`, by the word at `do`
abbrev pub request_on_name : List ℕ → Reading Request
request_on_name word = λ object.
    if bytes_eq word (codes "set_quota") then set_quota_row object
    else if bytes_eq word (codes "prohibit") then name_request Prohibit object
    else if bytes_eq word (codes "allow") then name_request Allow object
    else request_on_owner word object

-- the row of a request on users, or as in `request_on_name`, by the word at `do`
abbrev pub request_on_user : List ℕ → Reading Request
request_on_user word = λ object.
    if bytes_eq word (codes "add_user") then add_user_row object
    else if bytes_eq word (codes "set_token") then set_token_row object
    else request_on_name word object

-- reads the request of the word at `do`, with the keys of its row
abbrev pub request_row : Reading Request
request_row = do
  word ← text (codes "do")
  request_on_user word

-- the request that a JSON text describes, with only the keys of its row
unfoldable pub request_of : List ℕ → Option Request
request_of bytes = option_and_then (read_whole request_row) (json_of bytes)
