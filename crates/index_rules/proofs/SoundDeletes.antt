-- Sound tables stay sound if an undeleted file is deleted.
use Rattle.index_rules.proofs.Words.{◌≡◌, ◌+◌, ◌≤◌, true, false, cond, refl, sym, ap, ◌∙◌, subst, Some, is_some, arith, get, insert, remove}
use Rattle.index_rules.proofs.Words.{false≢true, project_of, Project, FileRecord, Bytes, same, Tables, owns_in, is_banned_in, held_project}
use Rattle.index_rules.proofs.Words.{is_held, is_undeleted, without_file, as_deleted, IsSound, IsRecordOf, IsBodyOf, charge_in}
use Rattle.index_rules.proofs.Words.{undeleted_count_in}
use Rattle.std.proofs.Common.{◌-◌}
use Rattle.index_rules.specs.declared.records.NameRecord.TheVariants.{Held}
use Rattle.index_rules.proofs.KeyLemmas.{same-refl}
use Rattle.index_rules.proofs.FileTotals.{total-delete}
use Rattle.index_rules.proofs.PutLemmas.{each_put, each_without, get-put_here, get-put_other}
use Rattle.index_rules.proofs.SoundNames.{still_held}

module _ (T : Tables) (sound : IsSound T) (file : Bytes) (known : FileRecord) (project : Project)
    (undeleted : known.is_undeleted ≡ true) (there : get T.files file ≡ Some known)
    (at : held_project (get T.names (project_of file)) ≡ Some project) where
  abbrev left : Project
  left = without_file known.size project

  abbrev with_one_less : Tables
  with_one_less = record T {
    names = insert T.names (project_of file) (Held left);
    files = insert T.files file (as_deleted known);
    bodies = remove T.bodies file;
  }

  project_is : known.project ≡ project_of file
  project_is = (sound.spelled file known there).project

  charge_in-delete : (name : Bytes) → charge_in with_one_less name + cond (same name (project_of file)) known.size 0 ≡ charge_in T name
  charge_in-delete name = ap (λ q. charge_in with_one_less name + cond (same name q) known.size 0) (sym project_is)
      ∙ total-delete (λ known. known.size) T file known undeleted there name

  undeleted_in-delete : (name : Bytes) → undeleted_count_in with_one_less name + cond (same name (project_of file)) 1 0
      ≡ undeleted_count_in T name
  undeleted_in-delete name = ap (λ q. undeleted_count_in with_one_less name + cond (same name q) 1 0) (sym project_is)
      ∙ total-delete (λ _. 1) T file known undeleted there name

  charge-delete : (name : Bytes) (p : Project) → held_project (get with_one_less.names name) ≡ Some p
      → p.charge ≡ charge_in with_one_less name
  charge-delete = each_put T.names (project_of file) (Held left) (λ name found. (p : Project) → held_project found ≡ Some p
      → p.charge ≡ charge_in with_one_less name)
      (λ p e.
      let is : left ≡ p = cc in
      let more : charge_in with_one_less (project_of file) + known.size ≡ charge_in T (project_of file) =
      sym (ap (λ b. charge_in with_one_less (project_of file) + cond b known.size 0) (same-refl (project_of file)))
      ∙ charge_in-delete (project_of file) in
      let before : project.charge ≡ charge_in T (project_of file) = sound.charge (project_of file) project at in
      let less : project.charge - known.size ≡ charge_in with_one_less (project_of file) = omega (arith, more, before) in
      ap (λ (r : Project). r.charge) (sym is) ∙ less)
      (λ name other p e.
      let more : charge_in with_one_less name + 0 ≡ charge_in T name =
      sym (ap (λ b. charge_in with_one_less name + cond b known.size 0) other) ∙ charge_in-delete name in
      let before : p.charge ≡ charge_in T name = sound.charge name p e in
      omega (arith, more, before))

  undeleted-delete : (name : Bytes) (p : Project) → held_project (get with_one_less.names name) ≡ Some p
      → p.undeleted ≡ undeleted_count_in with_one_less name
  undeleted-delete = each_put T.names (project_of file) (Held left) (λ name found. (p : Project) → held_project found ≡ Some p
      → p.undeleted ≡ undeleted_count_in with_one_less name)
      (λ p e.
      let is : left ≡ p = cc in
      let more : undeleted_count_in with_one_less (project_of file) + 1 ≡ undeleted_count_in T (project_of file) =
      sym (ap (λ b. undeleted_count_in with_one_less (project_of file) + cond b 1 0) (same-refl (project_of file)))
      ∙ undeleted_in-delete (project_of file) in
      let before : project.undeleted ≡ undeleted_count_in T (project_of file) = sound.undeleted (project_of file) project at in
      let less : project.undeleted - 1 ≡ undeleted_count_in with_one_less (project_of file) = omega (arith, more, before) in
      ap (λ (r : Project). r.undeleted) (sym is) ∙ less)
      (λ name other p e.
      let more : undeleted_count_in with_one_less name + 0 ≡ undeleted_count_in T name =
      sym (ap (λ b. undeleted_count_in with_one_less name + cond b 1 0) other) ∙ undeleted_in-delete name in
      let before : p.undeleted ≡ undeleted_count_in T name = sound.undeleted name p e in
      omega (arith, more, before))

  pub IsSound-delete : IsSound with_one_less
  IsSound-delete = record {
    one_bearer = sound.one_bearer;
    owners = λ name user owns. still_held T (project_of file) left name (sound.owners name user owns);
    owned = each_put T.names (project_of file) (Held left) (λ name found. is_held found ≡ true
        → (user : Bytes) × (owns_in T name user ≡ true))
        (λ _. sound.owned (project_of file) (ap is_some at))
        (λ name _. sound.owned name);
    yanks = λ name release yanked. still_held T (project_of file) left name (sound.yanks name release yanked);
    cases = λ name is_open. still_held T (project_of file) left name (sound.cases name is_open);
    spelled = each_put T.files file (as_deleted known) (λ q found. (k : FileRecord) → found ≡ Some k → IsRecordOf q k)
        (λ k e.
        let is : as_deleted known ≡ k = cc in
        let before = sound.spelled file known there in
        subst (IsRecordOf file) is (record { is_file_name = before.is_file_name; project = before.project; release = before.release }))
        (λ q _. sound.spelled q);
    undeleted_held = each_put T.files file (as_deleted known) (λ q found. (k : FileRecord) → found ≡ Some k → k.is_undeleted ≡ true
        → is_held (get with_one_less.names k.project) ≡ true)
        (λ k e still. let is : as_deleted known ≡ k = cc in absurd (false≢true (ap (λ (r : FileRecord). r.is_undeleted) is ∙ still)))
        (λ q _ k e still. still_held T (project_of file) left k.project (sound.undeleted_held q k e still));
    charge = charge-delete;
    undeleted = undeleted-delete;
    quota = each_put T.names (project_of file) (Held left) (λ name found. (p : Project) → held_project found ≡ Some p → p.charge ≤ p.quota)
        (λ p e.
        let is : left ≡ p = cc in
        let before : project.charge ≤ project.quota = sound.quota (project_of file) project at in
        let within : project.charge - known.size ≤ project.quota = omega (arith, before) in
        subst (λ (r : Project). r.charge ≤ r.quota) is within)
        (λ name _. sound.quota name);
    bodies = each_without T.bodies file (λ q found. is_some found ≡ is_undeleted (get with_one_less.files q))
        (sym (ap is_undeleted (get-put_here T.files file (as_deleted known))))
        (λ q other. sound.bodies q ∙ sym (ap is_undeleted (get-put_other T.files file (as_deleted known) q other)));
    bytes = each_without T.bodies file (λ q found. (b : Bytes) (k : FileRecord) → found ≡ Some b → get with_one_less.files q ≡ Some k
        → IsBodyOf k b)
        (λ b k e at_k. cc)
        (λ q other b k e at_k. sound.bytes q b k e (sym (get-put_other T.files file (as_deleted known) q other) ∙ at_k));
    bans = each_put T.files file (as_deleted known) (λ q found. is_banned_in T q ≡ true
        → (k : FileRecord) × (found ≡ Some k) × (k.is_undeleted ≡ false))
        (λ _. (as_deleted known, refl, refl))
        (λ q _. sound.bans q);
  }
