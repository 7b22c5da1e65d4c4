-- Wrong outcomes that the laws of rights exclude. Each differs from a right one in one fact.
use Rattle.std.specs.Prelude.{◌≡◌, ℕ, true, false, Option, Some, option_map}
use Rattle.std.specs.FinMap.{get}
use Rattle.index_names.specs.Project.{read_name}
use Rattle.index_names.specs.FileName.{project_of}
use Rattle.index_rules.specs.declared.call.Request.{Request}
use Rattle.index_rules.specs.declared.call.Request.TheVariants.{AddOwner, RemoveOwner, Upload}
use Rattle.index_rules.specs.declared.records.NameRecord.{NameRecord}
use Rattle.index_rules.specs.Maps.{Bytes}
use Rattle.index_rules.specs.Users.{read_user}
use Rattle.index_rules.specs.Tables.{Tables}
use Rattle.index_rules.specs.Verdict.{AlreadySo}
use Rattle.index_rules.specs.History.{History, Entry, more, is_read_as}
use Rattle.index_rules.specs.PastNames.{owns_after}
use Rattle.index_rules.specs.Legal.{IsLegal, verdict_after}
use Rattle.index_rules.specs.Looks.{PassesOverUsers}
use Rattle.index_rules.specs.Retries.{made_again}
use Rattle.index_rules.specs.Rights.{HasOwnersUpload, ServesOwnersUploads, WasAllowed, has_right}

-- an entry with these parts
abbrev pub entry_of : Bytes → Bytes → ℕ → Request → Entry
entry_of actor token at request =
    record { actor = actor; call = record { at = at; token = token; request = request } }

-- what a name has, and the digest of a user's token with it
abbrev pub name_and_token : Bytes → Bytes → Tables → Option NameRecord × Option Bytes
name_and_token n u T = (get T.names n, option_map (λ user. user.token) (get T.users u))

pub record RefutesRights : Type 0 where
  -- an owner is added by somebody else than the owner who may
  pub names : (h : History) (actor other token name user n : Bytes) (at : ℕ)
      → IsLegal (more h (entry_of actor token at (AddOwner name user)))
      → read_name name ≡ Some n → has_right h n other ≡ false
      → WasAllowed h (entry_of actor token at (AddOwner name user))
      × (¬ WasAllowed h (entry_of other token at (AddOwner name user)))
  -- a file is uploaded by somebody else than the owner who may
  pub uploads : (h : History) (actor other token file declared body requires : Bytes) (at : ℕ)
      → IsLegal (more h (entry_of actor token at (Upload file declared body requires)))
      → owns_after h (project_of file) other ≡ false → (¬ HasOwnersUpload h file body)
      → ServesOwnersUploads
      (more h (entry_of actor token at (Upload file declared body requires)))
      × (¬ ServesOwnersUploads
      (more h (entry_of other token at (Upload file declared body requires))))
  -- a look at a name shows the digest of a token too
  pub looks : (n u : Bytes)
      → PassesOverUsers (λ T. (name_and_token n u T).0)
      × (¬ PassesOverUsers (name_and_token n u))
  -- a remove_owner is asked again by the user who was removed
  pub retries : (h : History) (actor token name user : Bytes) (at again : ℕ)
      → is_read_as (read_user user) actor ≡ true
      → IsLegal (more h (entry_of actor token at (RemoveOwner name user)))
      → ¬ (verdict_after (more h (entry_of actor token at (RemoveOwner name user)))
      (made_again (entry_of actor token at (RemoveOwner name user)).call again) ≡ AlreadySo)
