-- Sound tables stay sound if a file is banned.
use Rattle.index_rules.proofs.Words.{◌≡◌, true, false, refl, sym, ap, ◌∙◌, subst, Option, Some, None, is_some, get, insert, remove}
use Rattle.index_rules.proofs.Words.{same_map, nat_list_cmp_total, exact_bytes, project_of, FileRecord, Project, Bytes, Tables}
use Rattle.index_rules.proofs.Words.{held_project, is_undeleted, without_file, as_deleted, with_project, IsSound}
use Rattle.index_rules.proofs.PutLemmas.{each_put, each_without, get-put_here}
use Rattle.index_rules.proofs.SoundDeletes.{IsSound-delete}
use Rattle.index_rules.proofs.SoundEnds.{nothing_there}

-- if the file is known and deleted, a ban of it is all that comes
IsSound-ban : (T : Tables) → IsSound T → (file : Bytes) (known : FileRecord) → get T.files file ≡ Some known → known.is_undeleted ≡ false
    → IsSound (record T { bans = insert T.bans file tt })
IsSound-ban T sound file known there gone = record {
  one_bearer = sound.one_bearer;
  owners = sound.owners;
  owned = sound.owned;
  yanks = sound.yanks;
  cases = sound.cases;
  spelled = sound.spelled;
  undeleted_held = sound.undeleted_held;
  charge = sound.charge;
  undeleted = sound.undeleted;
  quota = sound.quota;
  bodies = sound.bodies;
  bytes = sound.bytes;
  bans = each_put T.bans file tt (λ q found. is_some found ≡ true → (k : FileRecord) × (get T.files q ≡ Some k) × (k.is_undeleted ≡ false))
      (λ _. (known, there, gone))
      (λ q _. sound.bans q);
}

-- the tables after a ban of a file, which is deleted; its name has this project, if there is one
abbrev pub with_ban : Tables → Bytes → FileRecord → Option Project → Tables
with_ban T file known left = record T {
  names = with_project (project_of file) left T.names;
  files = insert T.files file (as_deleted known);
  bodies = remove T.bodies file;
  bans = insert T.bans file tt;
}

module _ (T : Tables) (file : Bytes) (known : FileRecord) (there : get T.files file ≡ Some known) where
  -- a file that is not undeleted stays as it is
  pub file_stays : known.is_undeleted ≡ false → insert T.files file (as_deleted known) ≡ T.files
  file_stays gone = same_map nat_list_cmp_total exact_bytes _ _ (each_put T.files file (as_deleted known) (λ q found. found ≡ get T.files q)
      ((λ i. Some (record known { is_undeleted = sym gone i })) ∙ sym there)
      (λ q _. refl))

  module _ (sound : IsSound T) where
    body_stays : known.is_undeleted ≡ false → remove T.bodies file ≡ T.bodies
    body_stays gone = same_map nat_list_cmp_total exact_bytes _ _ (each_without T.bodies file (λ q found. found ≡ get T.bodies q)
        (sym (nothing_there (get T.bodies file) (sound.bodies file ∙ ap is_undeleted there ∙ gone)))
        (λ q _. refl))

    pub IsSound-ban_deleted : known.is_undeleted ≡ false → IsSound (with_ban T file known None)
    IsSound-ban_deleted gone = subst IsSound
        (λ i. record T { files = sym (file_stays gone) i; bodies = sym (body_stays gone) i; bans = insert T.bans file tt })
        (IsSound-ban T sound file known there gone)

    pub IsSound-ban_undeleted : (project : Project) → known.is_undeleted ≡ true
        → held_project (get T.names (project_of file)) ≡ Some project
        → IsSound (with_ban T file known (Some (without_file known.size project)))
    IsSound-ban_undeleted project undeleted at =
        IsSound-ban _ (IsSound-delete T sound file known project undeleted there at) file (as_deleted known)
        (get-put_here T.files file (as_deleted known)) refl
