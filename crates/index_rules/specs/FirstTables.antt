-- The tables of a new index.
use Rattle.std.specs.Prelude.{◌≡◌, ◌⊎◌, ◌↔◌, true, [], None, Result, IsErrOf}
use Rattle.std.specs.FinMap.{empty, insert}
use Rattle.index_digest.specs.Digest.{sha256}
use Rattle.index_rules.specs.declared.open.OpenFault.{OpenFault}
use Rattle.index_rules.specs.declared.open.OpenFault.TheVariants.{BadFirstUser}
use Rattle.index_rules.specs.declared.records.UserRecord.{UserRecord}
use Rattle.index_rules.specs.Maps.{Bytes}
use Rattle.index_rules.specs.Tables.{Tables}
use Rattle.index_rules.specs.Users.{read_user}

-- the record of the first user, who is of the office
abbrev pub first_record : Bytes → UserRecord
first_record token = record { office = true; token = token }

-- one user of the office with this digest of a token, and nothing else
abbrev pub first_tables : Bytes → Bytes → Tables
first_tables user token = record {
  users = insert empty user (first_record token);
  names = empty;
  owners = empty;
  files = empty;
  bodies = empty;
  yanks = empty;
  cases = empty;
  bans = empty;
}

-- the bytes are not a user id, or the digest is that of the empty text, which is not a token
abbrev pub IsBadFirstUser : Bytes → Bytes → Type 0
IsBadFirstUser user token = (read_user user ≡ None) ⊎ (token ≡ sha256 [])

-- a call is refused with `BadFirstUser` exactly if the first user is invalid
abbrev pub RefusesBadFirstUser : {A : Type 0} → Bytes → Bytes → Result A OpenFault → Type 0
RefusesBadFirstUser user token result = IsErrOf result BadFirstUser ↔ IsBadFirstUser user token
