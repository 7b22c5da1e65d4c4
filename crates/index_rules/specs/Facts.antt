-- What a verdict rests on.
use Rattle.std.specs.Prelude.{◌≡◌, Bool, true, false, not, ◌&&◌, ◌||◌, List, [], Option, Some, None}
use Rattle.std.specs.Prelude.{find, option_map, option_and_then}
use Rattle.std.specs.Option.{option_map_or}
use Rattle.std.specs.List.{list_any, list_all}
use Rattle.std.specs.FinMap.{get, entries, keys, contains_key}
use Rattle.index_rules.specs.declared.call.Call.{Call}
use Rattle.index_rules.specs.declared.call.Request.{Request}
use Rattle.index_rules.specs.declared.keys.Keys.{Keys}
use Rattle.index_rules.specs.declared.records.UserRecord.{UserRecord}
use Rattle.index_rules.specs.declared.records.NameRecord.{NameRecord}
use Rattle.index_rules.specs.declared.records.FileRecord.{FileRecord}
use Rattle.index_rules.specs.declared.records.CaseRecord.{CaseRecord}
use Rattle.index_rules.specs.declared.view.Caller.{Caller}
use Rattle.index_rules.specs.declared.view.View.{View}
use Rattle.index_rules.specs.Maps.{Bytes, same}
use Rattle.index_rules.specs.Tables.{Tables, owners_in}
use Rattle.index_rules.specs.Requests.{user_key, token_key, name_key, file_key, release_key}

-- the records that a verdict rests on, and nothing else of the tables
pub record Facts : Type 0 where
  -- the user who has the caller's token
  pub caller : Option Caller
  -- the record of the named user
  pub user : Option UserRecord
  -- the user who has the token that the request brings
  pub bearer : Option Bytes
  -- the record of the name that the request is about
  pub name : Option NameRecord
  -- whether the caller owns that name
  pub owns : Bool
  -- whether the named user owns that name
  pub named_owns : Bool
  -- whether the named user alone owns that name
  pub sole : Bool
  -- the record of the file
  pub file : Option FileRecord
  -- whether the file is banned
  pub is_banned : Bool
  -- the reason for which the release is yanked
  pub yank : Option Bytes
  -- whether the release has an undeleted file
  pub has_release : Bool
  -- the open case of the name
  pub case : Option CaseRecord

-- ---- facts by the tables

-- the user who has the token with this digest
abbrev pub bearer_in : Tables → Bytes → Option (Bytes × UserRecord)
bearer_in T token = find (λ user. same token user.1.token) (entries T.users)

-- a user as a caller
abbrev pub caller_of : Bytes × UserRecord → Caller
caller_of user = record { user = user.0; office = user.1.office }

-- a question on a name and a user or a release; false if one of the two is missing
abbrev pub of_both : (Bytes → Bytes → Bool) → Option Bytes → Option Bytes → Bool
of_both question None other = false
of_both question (Some name) None = false
of_both question (Some name) (Some other) = question name other

-- whether the user owns the name
abbrev pub owns_in : Tables → Bytes → Bytes → Bool
owns_in T name user = contains_key T.owners (name, user)

-- whether the user is the name's one owner
abbrev pub owns_alone_in : Tables → Bytes → Bytes → Bool
owns_alone_in T name user =
    owns_in T name user
    && list_all (λ pair. not (same name pair.0) || same user pair.1) (keys T.owners)

-- whether a file is an undeleted one of this name and release
abbrev pub is_undeleted_of_release : Bytes → Bytes → FileRecord → Bool
is_undeleted_of_release name release known =
    known.is_undeleted && same name known.project && same release known.release

-- whether the name has an undeleted file of this release
abbrev pub has_release_in : Tables → Bytes → Bytes → Bool
has_release_in T name release =
    list_any (λ file. is_undeleted_of_release name release file.1) (entries T.files)

-- what is found at a name and a release; nothing if one of the two is missing
abbrev pub at_both : {A : Type 0} → (Bytes → Bytes → Option A) → Option Bytes → Option Bytes
    → Option A
at_both found None release = None
at_both found (Some name) None = None
at_both found (Some name) (Some release) = found name release

-- the reason for which a release is yanked (PEP 592)
abbrev pub yank_in : Tables → Bytes → Bytes → Option Bytes
yank_in T name release = get T.yanks (name, release)

-- whether the file is banned
abbrev pub is_banned_in : Tables → Bytes → Bool
is_banned_in T file = contains_key T.bans file

-- the facts that the tables have for a call
abbrev pub facts_in : Tables → Call → Facts
facts_in T call = record {
  caller = option_map caller_of (bearer_in T call.token);
  user = option_and_then (get T.users) (user_key call.request);
  bearer = option_map (λ user. user.0) (option_and_then (bearer_in T) (token_key call.request));
  name = option_and_then (get T.names) (name_key call.request);
  owns = of_both (owns_in T) (name_key call.request)
      (option_map (λ user. user.0) (bearer_in T call.token));
  named_owns = of_both (owns_in T) (name_key call.request) (user_key call.request);
  sole = of_both (owns_alone_in T) (name_key call.request) (user_key call.request);
  file = option_and_then (get T.files) (file_key call.request);
  is_banned = option_map_or (is_banned_in T) (file_key call.request) false;
  yank = at_both (yank_in T) (name_key call.request) (release_key call.request);
  has_release = of_both (has_release_in T) (name_key call.request) (release_key call.request);
  case = option_and_then (get T.cases) (name_key call.request);
}

-- no two users have tokens with one digest
abbrev pub HasOneBearer : Tables → Type 0
HasOneBearer T =
    (u v : Bytes) (x y : UserRecord) → get T.users u ≡ Some x → get T.users v ≡ Some y
    → x.token ≡ y.token → u ≡ v

-- ---- facts by a view

-- the user who has the token with this digest, or none if no user has
abbrev pub IsBearer : Tables → Bytes → Option (Bytes × UserRecord) → Type 0
IsBearer T token None =
    (u : Bytes) (user : UserRecord) → get T.users u ≡ Some user → same token user.token ≡ false
IsBearer T token (Some user) = (get T.users user.0 ≡ Some user.1) × (same token user.1.token ≡ true)

-- a part of the user who has a token, if there is a digest to look for
abbrev pub IsBearerAs : {A : Type 0} → (Bytes × UserRecord → A) → Tables → Option Bytes
    → Option A → Type 0
IsBearerAs part T None found = found ≡ None
IsBearerAs part T (Some token) found =
    (user : Option (Bytes × UserRecord)) × IsBearer T token user × (found ≡ option_map part user)

-- the owners of a name in byte order; none if there is no name
abbrev pub owners_of_name : Tables → Option Bytes → List Bytes
owners_of_name T None = []
owners_of_name T (Some name) = owners_in T name

-- the view has the records of the tables that the keys name
pub record Sees (T : Tables) (k : Keys) (v : View) : Type 0 where
  pub caller : IsBearerAs caller_of T k.caller v.caller
  pub user : v.user ≡ option_and_then (get T.users) k.user
  pub bearer : IsBearerAs (λ user. user.0) T k.token v.bearer
  pub name : v.name ≡ option_and_then (get T.names) k.name
  pub owners : v.owners ≡ owners_of_name T k.name
  pub file : v.file ≡ option_and_then (get T.files) k.file
  pub is_banned : v.is_banned ≡ option_map_or (is_banned_in T) k.file false
  pub yank : v.yank ≡ at_both (yank_in T) k.name k.release
  pub has_release : v.has_release ≡ of_both (has_release_in T) k.name k.release
  pub case : v.case ≡ option_and_then (get T.cases) k.name

-- whether there is a user, and it is one of these
abbrev pub is_one_of : List Bytes → Option Bytes → Bool
is_one_of users user = option_map_or (λ one. list_any (same one) users) user false

-- whether there is a user, and these are all that user
abbrev pub is_only_one_of : List Bytes → Option Bytes → Bool
is_only_one_of users user =
    option_map_or (λ one. list_any (same one) users && list_all (same one) users) user false

-- the facts that a view has for a request
abbrev pub facts_seen : View → Request → Facts
facts_seen v request = record {
  caller = v.caller;
  user = v.user;
  bearer = v.bearer;
  name = v.name;
  owns = is_one_of v.owners (option_map (λ caller. caller.user) v.caller);
  named_owns = is_one_of v.owners (user_key request);
  sole = is_only_one_of v.owners (user_key request);
  file = v.file;
  is_banned = v.is_banned;
  yank = v.yank;
  has_release = v.has_release;
  case = v.case;
}
