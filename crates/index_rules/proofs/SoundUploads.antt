-- Sound tables stay sound if a file that is not undeleted is uploaded within its project's quota.
use Rattle.index_rules.proofs.Words.{◌≡◌, ℕ, ◌+◌, ◌≤◌, true, false, cond, inl, inr, sym, ap, ◌∙◌, subst, Some, is_some, length, arith, get}
use Rattle.index_rules.proofs.Words.{insert, false≢true, Project, FileRecord, Bytes, same, sha256, Tables, owns_in, is_banned_in}
use Rattle.index_rules.proofs.Words.{held_project, is_held, is_undeleted, with_file, IsSound, IsRecordOf, IsBodyOf, charge_in}
use Rattle.index_rules.proofs.Words.{undeleted_count_in}
use Rattle.index_rules.specs.declared.records.NameRecord.TheVariants.{Held}
use Rattle.index_rules.proofs.KeyLemmas.{same-refl, cases_same}
use Rattle.index_rules.proofs.FileTotals.{total-upload}
use Rattle.index_rules.proofs.PutLemmas.{each_put, get-put_here, get-put_other}
use Rattle.index_rules.proofs.SoundNames.{still_held}

module _ (at : ℕ) (T : Tables) (sound : IsSound T) (file : Bytes) (known : FileRecord) (body : Bytes) (project : Project)
    (undeleted : known.is_undeleted ≡ true) (deleted : is_undeleted (get T.files file) ≡ false)
    (there : held_project (get T.names known.project) ≡ Some project) where
  abbrev uploaded : Tables
  uploaded = record T {
    names = insert T.names known.project (Held (with_file at known.size project));
    files = insert T.files file known;
    bodies = insert T.bodies file body;
  }

  charge_in-upload : (name : Bytes) → charge_in uploaded name ≡ charge_in T name + cond (same name known.project) known.size 0
  charge_in-upload = total-upload (λ known. known.size) T file known undeleted deleted

  undeleted_in-upload : (name : Bytes) → undeleted_count_in uploaded name ≡ undeleted_count_in T name + cond (same name known.project) 1 0
  undeleted_in-upload = total-upload (λ _. 1) T file known undeleted deleted

  held : is_held (get T.names known.project) ≡ true
  held = ap is_some there

  charge-upload : (name : Bytes) (p : Project) → held_project (get uploaded.names name) ≡ Some p → p.charge ≡ charge_in uploaded name
  charge-upload = each_put T.names known.project (Held (with_file at known.size project)) (λ name found. (p : Project)
      → held_project found ≡ Some p → p.charge ≡ charge_in uploaded name)
      (λ p e.
      let is : with_file at known.size project ≡ p = cc in
      let more : charge_in uploaded known.project ≡ charge_in T known.project + known.size =
      charge_in-upload known.project ∙ ap (λ b. charge_in T known.project + cond b known.size 0) (same-refl known.project) in
      ap (λ (r : Project). r.charge) (sym is) ∙ ap (λ c. c + known.size) (sound.charge known.project project there) ∙ sym more)
      (λ name other p e.
      let more : charge_in uploaded name ≡ charge_in T name + 0 =
      charge_in-upload name ∙ ap (λ b. charge_in T name + cond b known.size 0) other in
      let before : p.charge ≡ charge_in T name = sound.charge name p e in
      omega (arith, more, before))

  undeleted-upload : (name : Bytes) (p : Project) → held_project (get uploaded.names name) ≡ Some p
      → p.undeleted ≡ undeleted_count_in uploaded name
  undeleted-upload = each_put T.names known.project (Held (with_file at known.size project)) (λ name found. (p : Project)
      → held_project found ≡ Some p → p.undeleted ≡ undeleted_count_in uploaded name)
      (λ p e.
      let is : with_file at known.size project ≡ p = cc in
      let more : undeleted_count_in uploaded known.project ≡ undeleted_count_in T known.project + 1 =
      undeleted_in-upload known.project ∙ ap (λ b. undeleted_count_in T known.project + cond b 1 0) (same-refl known.project) in
      ap (λ (r : Project). r.undeleted) (sym is) ∙ ap (λ c. c + 1) (sound.undeleted known.project project there) ∙ sym more)
      (λ name other p e.
      let more : undeleted_count_in uploaded name ≡ undeleted_count_in T name + 0 =
      undeleted_in-upload name ∙ ap (λ b. undeleted_count_in T name + cond b 1 0) other in
      let before : p.undeleted ≡ undeleted_count_in T name = sound.undeleted name p e in
      omega (arith, more, before))

  bytes-upload : IsBodyOf known body → (q b : Bytes) (k : FileRecord) → get uploaded.bodies q ≡ Some b → get uploaded.files q ≡ Some k
      → IsBodyOf k b
  bytes-upload is = each_put T.bodies file body (λ q found. (b : Bytes) (k : FileRecord) → found ≡ Some b → get uploaded.files q ≡ Some k
      → IsBodyOf k b)
      (λ b k e at_k.
      let body_is : body ≡ b = cc in
      let known_is : Some known ≡ Some k = sym (get-put_here T.files file known) ∙ at_k in
      let same_known : known ≡ k = cc in
      record {
        size = (λ i. length (sym body_is i)) ∙ is.size ∙ (λ i. (same_known i).size);
        digest = (λ i. sha256 (sym body_is i)) ∙ is.digest ∙ (λ i. (same_known i).digest);
      })
      (λ q other b k e at_k. sound.bytes q b k e (sym (get-put_other T.files file known q other) ∙ at_k))

  pub IsSound-upload : IsRecordOf file known → IsBodyOf known body → project.charge + known.size ≤ project.quota
      → is_banned_in T file ≡ false → IsSound uploaded
  IsSound-upload spelled is_body fits no_ban = record {
    one_bearer = sound.one_bearer;
    owners = λ name user owns. still_held T known.project (with_file at known.size project) name (sound.owners name user owns);
    owned = each_put T.names known.project (Held (with_file at known.size project)) (λ name found. is_held found ≡ true
        → (user : Bytes) × (owns_in T name user ≡ true))
        (λ _. sound.owned known.project held)
        (λ name _. sound.owned name);
    yanks = λ name release yanked. still_held T known.project (with_file at known.size project) name (sound.yanks name release yanked);
    cases = λ name is_open. still_held T known.project (with_file at known.size project) name (sound.cases name is_open);
    spelled = each_put T.files file known (λ q found. (k : FileRecord) → found ≡ Some k → IsRecordOf q k)
        (λ k e. let is : known ≡ k = cc in subst (IsRecordOf file) is spelled)
        (λ q _. sound.spelled q);
    undeleted_held = each_put T.files file known (λ q found. (k : FileRecord) → found ≡ Some k → k.is_undeleted ≡ true
        → is_held (get uploaded.names k.project) ≡ true)
        (λ k e _. let is : known ≡ k = cc in subst (λ (r : FileRecord). is_held (get uploaded.names r.project) ≡ true) is
        (still_held T known.project (with_file at known.size project) known.project held))
        (λ q _ k e there. still_held T known.project (with_file at known.size project) k.project (sound.undeleted_held q k e there));
    charge = charge-upload;
    undeleted = undeleted-upload;
    quota = each_put T.names known.project (Held (with_file at known.size project)) (λ name found. (p : Project)
        → held_project found ≡ Some p → p.charge ≤ p.quota)
        (λ p e. let is : with_file at known.size project ≡ p = cc in subst (λ (r : Project). r.charge ≤ r.quota) is fits)
        (λ name _. sound.quota name);
    bodies = λ q. elim (cases_same q file) [
      | inl e ↦ ap (λ x. is_some (get uploaded.bodies x)) e ∙ ap is_some (get-put_here T.bodies file body)
          ∙ sym (ap (λ x. is_undeleted (get uploaded.files x)) e ∙ ap is_undeleted (get-put_here T.files file known) ∙ undeleted)
      | inr other ↦ ap is_some (get-put_other T.bodies file body q other) ∙ sound.bodies q
          ∙ sym (ap is_undeleted (get-put_other T.files file known q other))
    ];
    bytes = bytes-upload is_body;
    bans = each_put T.files file known (λ q found. is_banned_in T q ≡ true → (k : FileRecord) × (found ≡ Some k) × (k.is_undeleted ≡ false))
        (λ banned. absurd (false≢true (sym no_ban ∙ banned)))
        (λ q _. sound.bans q);
  }
