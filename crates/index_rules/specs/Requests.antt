-- The parts of a request that can be parsed.
use Rattle.std.specs.Prelude.{◌≡◌, ◌⊎◌, [], Bool, true, false, Option, Some, None, IsSome, IsTrue}
use Rattle.std.specs.Prelude.{option_map, Result, IfOk, IfErr}
use Rattle.index_names.specs.Project.{read_name}
use Rattle.index_names.specs.FileName.{read_file_name, project_of}
use Rattle.index_names.specs.Release.{read_release}
use Rattle.index_digest.specs.Digest.{read_digest}
use Rattle.index_rules.specs.declared.call.Call.{Call}
use Rattle.index_rules.specs.declared.call.Request.{Request}
use Rattle.index_rules.specs.declared.call.Request.TheVariants.{AddUser, SetToken, SetQuota, Claim}
use Rattle.index_rules.specs.declared.call.Request.TheVariants.{AddOwner, RemoveOwner, Upload}
use Rattle.index_rules.specs.declared.call.Request.TheVariants.{Delete, BanFile, Yank, Unyank}
use Rattle.index_rules.specs.declared.call.Request.TheVariants.{Relinquish, Prohibit, Allow}
use Rattle.index_rules.specs.declared.call.Request.TheVariants.{OpenCase, RecordAttempt, Transfer}
use Rattle.index_rules.specs.declared.call.Request.TheVariants.{CloseCase, AnswerCase}
use Rattle.index_rules.specs.declared.keys.Keys.{Keys}
use Rattle.index_rules.specs.Maps.{Bytes}
use Rattle.index_rules.specs.Users.{read_user}
use Rattle.index_rules.specs.Texts.{is_text, read_token}

-- the file name that bytes are
unfoldable pub read_file : Bytes → Option Bytes
read_file file = option_map (λ spelled. file) (read_file_name file)

-- bytes that are a file name, and a text of the Python versions that the file asks for
pub record AreFileParts (file requires : Bytes) : Type 0 where
  pub file_is : IsSome (read_file file)
  pub text_is : IsTrue (is_text requires)

-- the user that a request names
abbrev pub user_key : Request → Option Bytes
user_key (AddUser user office token) = read_user user
user_key (SetToken user token) = read_user user
user_key (AddOwner name user) = read_user user
user_key (RemoveOwner name user) = read_user user
user_key request = None

-- the digest of the token that a request brings for the user it names
abbrev pub token_key : Request → Option Bytes
token_key (AddUser user office token) = read_token token
token_key (SetToken user token) = read_token token
token_key request = None

-- the name that a request is about; a file name spells its project
abbrev pub name_key : Request → Option Bytes
name_key (AddUser user office token) = None
name_key (SetToken user token) = None
name_key (SetQuota name quota) = read_name name
name_key (Claim name) = read_name name
name_key (AddOwner name user) = read_name name
name_key (RemoveOwner name user) = read_name name
name_key (Upload file sha256 body requires) = option_map project_of (read_file file)
name_key (Delete file) = option_map project_of (read_file file)
name_key (BanFile file) = option_map project_of (read_file file)
name_key (Yank name release reason) = read_name name
name_key (Unyank name release) = read_name name
name_key (Relinquish name) = read_name name
name_key (Prohibit name) = read_name name
name_key (Allow name) = read_name name
name_key (OpenCase name kind contact work why) = read_name name
name_key (RecordAttempt name means sent) = read_name name
name_key (Transfer name quiet) = read_name name
name_key (CloseCase name) = read_name name
name_key (AnswerCase name) = read_name name

-- the file that a request names
abbrev pub file_key : Request → Option Bytes
file_key (Upload file sha256 body requires) = read_file file
file_key (Delete file) = read_file file
file_key (BanFile file) = read_file file
file_key request = None

-- the release that a request names
abbrev pub release_key : Request → Option Bytes
release_key (Yank name release reason) = read_release release
release_key (Unyank name release) = read_release release
release_key request = None

-- the digest that a request declares, of a token or of a body
abbrev pub declared_digest : Request → Option Bytes
declared_digest (Upload file sha256 body requires) = read_digest sha256
declared_digest request = token_key request

-- whether a request is an upload
abbrev pub is_upload : Request → Bool
is_upload (Upload file sha256 body requires) = true
is_upload request = false

-- what is looked up for a request, and for the caller if there is a token
abbrev pub keys_of_request : Option Bytes → Request → Keys
keys_of_request caller request = record {
  caller = caller;
  user = user_key request;
  token = token_key request;
  name = name_key request;
  file = file_key request;
  release = release_key request;
}

-- a request that names a user and brings a token; for each other such request the same is looked up
abbrev pub any_on_user : Bytes → Bytes → Request
any_on_user user token = SetToken user token

-- a request that names just a name; for each other such request the same is looked up
abbrev pub any_on_name : Bytes → Request
any_on_name name = Claim name

-- a request that names a name and an owner; for each other such request the same is looked up
abbrev pub any_on_owner : Bytes → Bytes → Request
any_on_owner name owner = AddOwner name owner

-- a request that names a name and a release; for each other such request the same is looked up
abbrev pub any_on_release : Bytes → Bytes → Request
any_on_release name release = Unyank name release

-- a request that names just a file; for each other such request the same is looked up
abbrev pub any_on_file : Bytes → Request
any_on_file file = Delete file

-- an upload of these bytes; to find what they are charged to, no other part of it is read
abbrev pub upload_of_bytes : Bytes → Bytes → Request
upload_of_bytes declared body = Upload [] declared body []

-- what is looked up for a call
abbrev pub keys_of : Call → Keys
keys_of call = keys_of_request (Some call.token) call.request

-- something that is looked up for a request can be parsed
abbrev pub HasReadableKey : Request → Type 0
HasReadableKey request =
    IsSome (user_key request) ⊎ IsSome (name_key request) ⊎ IsSome (file_key request)
    ⊎ IsSome (release_key request)

-- what is looked up for a request was parsed, or memory ran out while parsing it
pub record ReadsKeys {E : Type 0} (caller : Option Bytes) (request : Request)
    (result : Result Keys E) : Type 0 where
  pub keys : IfOk result (λ keys. keys ≡ keys_of_request caller request)
  pub readable : IfErr result (λ _. HasReadableKey request)

-- the keys of a name alone
abbrev pub keys_of_name : Bytes → Keys
keys_of_name name = record {
  caller = None;
  user = None;
  token = None;
  name = Some name;
  file = None;
  release = None;
}
