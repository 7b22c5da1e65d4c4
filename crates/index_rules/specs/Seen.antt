-- The parts of a view: each line is that of the view (`Sees`).
use Rattle.std.specs.Prelude.{◌≡◌, false, Option, option_and_then}
use Rattle.std.specs.Option.{option_map_or}
use Rattle.std.specs.FinMap.{get}
use Rattle.index_rules.specs.declared.keys.Keys.{Keys}
use Rattle.index_rules.specs.declared.view.FilesSeen.{FilesSeen}
use Rattle.index_rules.specs.declared.view.NameSeen.{NameSeen}
use Rattle.index_rules.specs.declared.view.UsersSeen.{UsersSeen}
use Rattle.index_rules.specs.Facts.{IsBearerAs, at_both, caller_of, has_release_in, is_banned_in}
use Rattle.index_rules.specs.Facts.{of_both, owners_of_name, yank_in}
use Rattle.index_rules.specs.Maps.{Bytes}
use Rattle.index_rules.specs.Tables.{Tables}

-- what the tables have of users
pub record SeesUsers (T : Tables) (k : Keys) (seen : UsersSeen) : Type 0 where
  pub caller : IsBearerAs caller_of T k.caller seen.caller
  pub user : seen.user ≡ option_and_then (get T.users) k.user
  pub bearer : IsBearerAs (λ user. user.0) T k.token seen.bearer

-- what the tables have of a name, if there is one
pub record SeesName (T : Tables) (name : Option Bytes) (seen : NameSeen) : Type 0 where
  pub its_record : seen.name ≡ option_and_then (get T.names) name
  pub owners : seen.owners ≡ owners_of_name T name
  pub case : seen.case ≡ option_and_then (get T.cases) name

-- what the tables have of the file and the release
pub record SeesFiles (T : Tables) (k : Keys) (seen : FilesSeen) : Type 0 where
  pub file : seen.file ≡ option_and_then (get T.files) k.file
  pub is_banned : seen.is_banned ≡ option_map_or (is_banned_in T) k.file false
  pub yank : seen.yank ≡ at_both (yank_in T) k.name k.release
  pub has_release : seen.has_release ≡ of_both (has_release_in T) k.name k.release
