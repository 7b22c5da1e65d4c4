-- Sound tables stay sound if a name ends with its owners, files and yanks.
use Rattle.index_rules.proofs.Words.{◌≡◌, Bool, true, false, cond, not, ◌&&◌, inl, inr, refl, sym, ap, ◌∙◌, subst, Option, Some, None}
use Rattle.index_rules.proofs.Words.{is_some, option_map, option_map_or, get, insert, remove, retain_keys, same_map, and-true, true≢false}
use Rattle.index_rules.proofs.Words.{false≢true, nat_list_cmp_total, exact_bytes, NameRecord, Project, FileRecord, Bytes, Map, PairMap}
use Rattle.index_rules.proofs.Words.{same, change_values, Tables, is_banned_in, held_project, is_held, is_undeleted, as_deleted}
use Rattle.index_rules.proofs.Words.{as_deleted_of, is_file_of, without_name, IsSound, IsRecordOf, IsBodyOf, undeleted_count_in}
use Rattle.index_rules.specs.declared.records.NameRecord.TheVariants.{Prohibited}
use Rattle.index_rules.proofs.KeyLemmas.{cases_same, get-kept, get-change_values, get-without_name, get-without_name_other}
use Rattle.index_rules.proofs.PutLemmas.{other-sym, get-put_here, get-put_other, get-without_here, get-without_other, each_changed}
use Rattle.index_rules.proofs.FileTotals.{total-delete_all, none_undeleted}

-- ---- a name that ends

pub nothing_there : {X : Type 0} (found : Option X) → is_some found ≡ false → found ≡ None
nothing_there None e = refl
nothing_there (Some x) e = absurd (true≢false e)

-- what is left of pairs without a name is of another name, and was there
left_without : {X : Type 0} (name : Bytes) (m : PairMap X) (n u : Bytes) → is_some (get (without_name name m) (n, u)) ≡ true
    → (same n name ≡ false) × (is_some (get m (n, u)) ≡ true)
left_without {X = X} name m n u left =
    let parts = by (same name n) (get m (n, u)) (sym (ap is_some (get-without_name name m n u)) ∙ left) in
    (other-sym name n parts.0, parts.1)
  where
    by : (b : Bool) (found : Option X) → is_some (cond (not b) found None) ≡ true → (b ≡ false) × (is_some found ≡ true)
    by true found left = absurd (false≢true left)
    by false found left = (refl, left)

module _ (T : Tables) (sound : IsSound T) (name : Bytes) (closed : get T.cases name ≡ None) where
  abbrev left_files : Map FileRecord
  left_files = change_values (as_deleted_of name) T.files

  abbrev left_bodies : Map Bytes
  left_bodies = retain_keys T.bodies (λ file. not (is_file_of T.files name file))

  abbrev ended : Map NameRecord → Tables
  ended names = record T {
    names = names;
    owners = without_name name T.owners;
    files = left_files;
    bodies = left_bodies;
    yanks = without_name name T.yanks;
  }

  -- ---- its files and bodies

  spelled-ended : (file : Bytes) (known : FileRecord) → get left_files file ≡ Some known → IsRecordOf file known
  spelled-ended = each_changed (as_deleted_of name) T.files IsRecordOf (λ file known there.
      let before = sound.spelled file known there in
      elim (same name known.project) as (λ b. IsRecordOf file (cond b (as_deleted known) known)) [
        | true ↦ record { is_file_name = before.is_file_name; project = before.project; release = before.release }
        | false ↦ before
      ])

  -- an undeleted file is of another name, which was held
  undeleted-ended : (file : Bytes) (known : FileRecord) → get left_files file ≡ Some known → known.is_undeleted ≡ true
      → (same known.project name ≡ false) × (is_held (get T.names known.project) ≡ true)
  undeleted-ended = each_changed (as_deleted_of name) T.files (λ _ known. known.is_undeleted ≡ true
      → (same known.project name ≡ false) × (is_held (get T.names known.project) ≡ true)) (λ file known there.
      elim (same name known.project) as (λ b. same name known.project ≡ b → (cond b (as_deleted known) known).is_undeleted ≡ true
      → (same (cond b (as_deleted known) known).project name ≡ false)
      × (is_held (get T.names (cond b (as_deleted known) known).project) ≡ true)) [
        | true ↦ λ _ is. absurd (false≢true is)
        | false ↦ λ other is. (other-sym name known.project other, sound.undeleted_held file known there is)
      ] refl)

  -- a body is left if the file is of another name
  abbrev left_body : Option FileRecord → Option Bytes → Option Bytes
  left_body known body = cond (not (option_map_or (λ k. same name k.project) known false)) body None

  get-ended : (file : Bytes) → get left_bodies file ≡ left_body (get T.files file) (get T.bodies file)
  get-ended file = get-kept T.bodies (λ q. not (is_file_of T.files name q)) file

  bodies-ended : (file : Bytes) → is_some (get left_bodies file) ≡ is_undeleted (get left_files file)
  bodies-ended file =
      ap is_some (get-ended file) ∙ by (get T.files file) (sound.bodies file)
      ∙ sym (ap is_undeleted (get-change_values (as_deleted_of name) T.files file))
    where
      by : (found : Option FileRecord) → is_some (get T.bodies file) ≡ is_undeleted found
          → is_some (left_body found (get T.bodies file)) ≡ is_undeleted (option_map (as_deleted_of name) found)
      by None e = e
      by (Some known) e = elim (same name known.project) as
          (λ b. is_some (cond (not b) (get T.bodies file) None) ≡ (cond b (as_deleted known) known).is_undeleted)
          [ true ↦ refl | false ↦ e ]

  bytes-ended : (file body : Bytes) (known : FileRecord) → get left_bodies file ≡ Some body
      → get left_files file ≡ Some known → IsBodyOf known body
  bytes-ended file body known at_body at =
      each_changed (as_deleted_of name) T.files (λ q k. left_body (get T.files q) (get T.bodies q) ≡ Some body
      → IsBodyOf k body) (λ q k there at_body.
      elim (same name k.project) as (λ b. cond (not b) (get T.bodies q) None ≡ Some body → IsBodyOf (cond b (as_deleted k) k) body) [
        | true ↦ λ e. cc
        | false ↦ λ e. sound.bytes q body k e there
      ] (sym (ap (λ found. left_body found (get T.bodies q)) there) ∙ at_body))
      file known at (sym (get-ended file) ∙ at_body)

  bans-ended : (file : Bytes) → is_banned_in T file ≡ true
      → (known : FileRecord) × (get left_files file ≡ Some known) × (known.is_undeleted ≡ false)
  bans-ended file banned =
      let was = sound.bans file banned in (
        as_deleted_of name was.0,
        get-change_values (as_deleted_of name) T.files file ∙ ap (option_map (as_deleted_of name)) was.1,
        elim (same name was.0.project) as (λ b. (cond b (as_deleted was.0) was.0).is_undeleted ≡ false) [ true ↦ refl | false ↦ was.2 ],
      )

  -- ---- the tables after the name is no longer held, with all others as they were

  module _ (names : Map NameRecord) (gone : is_held (get names name) ≡ false) (others : (n : Bytes) → same n name ≡ false
      → get names n ≡ get T.names n) where
    is_other : (n : Bytes) → is_held (get names n) ≡ true → same n name ≡ false
    is_other n held = elim (cases_same n name) [
      | inl e ↦ absurd (false≢true (sym gone ∙ ap (λ q. is_held (get names q)) (sym e) ∙ held))
      | inr other ↦ other
    ]

    before : (n : Bytes) (p : Project) → held_project (get names n) ≡ Some p
        → (same n name ≡ false) × (held_project (get T.names n) ≡ Some p)
    before n p at = let other = is_other n (ap is_some at) in (other, sym (ap held_project (others n other)) ∙ at)

    IsSound-ended : IsSound (ended names)
    IsSound-ended = record {
      one_bearer = sound.one_bearer;
      owners = λ n user owns. let was = left_without name T.owners n user owns in ap is_held (others n was.0) ∙ sound.owners n user was.1;
      owned = λ n held.
          let other = is_other n held in
          let one = sound.owned n (sym (ap is_held (others n other)) ∙ held) in
          (one.0, ap is_some (get-without_name_other T.owners name n one.0 (other-sym n name other)) ∙ one.1);
      yanks = λ n release yanked. let was = left_without name T.yanks n release yanked in
          ap is_held (others n was.0) ∙ sound.yanks n release was.1;
      cases = λ n is_open. elim (cases_same n name) [
        | inl e ↦ absurd (false≢true (sym (ap is_some (ap (get T.cases) e ∙ closed)) ∙ is_open))
        | inr other ↦ ap is_held (others n other) ∙ sound.cases n is_open
      ];
      spelled = spelled-ended;
      undeleted_held = λ file known there is. let was = undeleted-ended file known there is in
          ap is_held (others known.project was.0) ∙ was.1;
      charge = λ n p at. let was = before n p at in sound.charge n p was.1 ∙ sym (total-delete_all (λ known. known.size) T name n was.0);
      undeleted = λ n p at. let was = before n p at in sound.undeleted n p was.1 ∙ sym (total-delete_all (λ _. 1) T name n was.0);
      quota = λ n p at. sound.quota n p (before n p at).1;
      bodies = bodies-ended;
      bytes = bytes-ended;
      bans = bans-ended;
    }

  pub IsSound-prohibit : IsSound (ended (insert T.names name Prohibited))
  IsSound-prohibit = IsSound-ended (insert T.names name Prohibited) (ap is_held (get-put_here T.names name Prohibited))
      (get-put_other T.names name Prohibited)

  -- ---- a name without undeleted files loses none

  module _ (none : undeleted_count_in T name ≡ 0) where
    files_stay : left_files ≡ T.files
    files_stay = same_map nat_list_cmp_total exact_bytes _ _
        (λ file. get-change_values (as_deleted_of name) T.files file ∙ by file (get T.files file) refl)
      where
        by : (file : Bytes) (found : Option FileRecord) → get T.files file ≡ found → option_map (as_deleted_of name) found ≡ found
        by file None there = refl
        by file (Some known) there = elim (same name known.project) as (λ b. known.is_undeleted && b ≡ false
            → Some (cond b (as_deleted known) known) ≡ Some known) [
              | true ↦ λ e. λ i. Some (record known { is_undeleted = sym (sym (and-true known.is_undeleted) ∙ e) i })
              | false ↦ λ _. refl
            ] (none_undeleted T name none file known there)

    bodies_stay : left_bodies ≡ T.bodies
    bodies_stay = same_map nat_list_cmp_total exact_bytes _ _ (λ file. get-ended file ∙ by file (get T.files file) refl (sound.bodies file))
      where
        by : (file : Bytes) (found : Option FileRecord) → get T.files file ≡ found → is_some (get T.bodies file) ≡ is_undeleted found
            → left_body found (get T.bodies file) ≡ get T.bodies file
        by file None there e = refl
        by file (Some known) there e = elim (same name known.project) as (λ b. known.is_undeleted && b ≡ false
            → cond (not b) (get T.bodies file) None ≡ get T.bodies file) [
              | true ↦ λ deleted. sym (nothing_there (get T.bodies file) (e ∙ sym (and-true known.is_undeleted) ∙ deleted))
              | false ↦ λ _. refl
            ] (none_undeleted T name none file known there)

    pub IsSound-relinquish : IsSound (record T {
      names = remove T.names name;
      owners = without_name name T.owners;
      yanks = without_name name T.yanks;
    })
    IsSound-relinquish = subst IsSound
        (λ i. record T {
          names = remove T.names name;
          owners = without_name name T.owners;
          files = files_stay i;
          bodies = bodies_stay i;
          yanks = without_name name T.yanks;
        })
        (IsSound-ended (remove T.names name) (ap is_held (get-without_here T.names name)) (get-without_other T.names name))
