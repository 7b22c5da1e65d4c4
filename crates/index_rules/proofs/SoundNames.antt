-- Sound tables stay sound if a held name's quota changes or a free name is claimed.
use Rattle.index_rules.proofs.Words.{◌≡◌, ◌≤◌, true, false, cond, not, ◌&&◌, inl, inr, refl, sym, ap, ◌∙◌, subst, Some, is_some, arith, get}
use Rattle.index_rules.proofs.Words.{insert, contains_key, false≢true, cases_Bool, and_parts, Project, FileRecord, Bytes, Pairs, same}
use Rattle.index_rules.proofs.Words.{Tables, owns_in, yank_in, held_project, is_held, without_name, IsSound, is_undeleted_of, charged_size}
use Rattle.index_rules.proofs.Words.{charge_in, undeleted_count_in}
use Rattle.index_rules.specs.declared.records.NameRecord.TheVariants.{Held}
use Rattle.index_rules.proofs.OwnerLists.{same-is}
use Rattle.index_rules.proofs.KeyLemmas.{same-refl, has-put, has-cleared, get-without_name_other}
use Rattle.index_rules.proofs.Totals.{total-zero}
use Rattle.index_rules.proofs.PutLemmas.{each_put, other-sym}

-- a name that was held before is held if one is put
pub still_held : (T : Tables) (name : Bytes) (project : Project) (q : Bytes) → is_held (get T.names q) ≡ true
    → is_held (get (insert T.names name (Held project)) q) ≡ true
still_held T name project = each_put T.names name (Held project) (λ q found. is_held (get T.names q) ≡ true
    → is_held found ≡ true) (λ _. refl) (λ _ _ held. held)

-- ---- a held name with another quota

pub IsSound-project : (T : Tables) → IsSound T → (name : Bytes) (before project : Project) → held_project (get T.names name) ≡ Some before
    → project.charge ≡ before.charge → project.undeleted ≡ before.undeleted → project.charge ≤ project.quota
    → IsSound (record T { names = insert T.names name (Held project) })
IsSound-project T sound name before project at charge undeleted quota = record {
  one_bearer = sound.one_bearer;
  owners = λ n user owns. still_held T name project n (sound.owners n user owns);
  owned = each_put T.names name (Held project) (λ n found. is_held found ≡ true → (user : Bytes) × (owns_in T n user ≡ true))
      (λ _. sound.owned name (ap is_some at))
      (λ n _. sound.owned n);
  yanks = λ n release yanked. still_held T name project n (sound.yanks n release yanked);
  cases = λ n is_open. still_held T name project n (sound.cases n is_open);
  spelled = sound.spelled;
  undeleted_held = λ file known there is. still_held T name project known.project (sound.undeleted_held file known there is);
  charge = each_put T.names name (Held project) (λ n found. (p : Project) → held_project found ≡ Some p → p.charge ≡ charge_in T n)
      (λ p e. let is : project ≡ p = cc in ap (λ (r : Project). r.charge) (sym is) ∙ charge ∙ sound.charge name before at)
      (λ n _. sound.charge n);
  undeleted = each_put T.names name (Held project) (λ n found. (p : Project) → held_project found ≡ Some p
      → p.undeleted ≡ undeleted_count_in T n)
      (λ p e. let is : project ≡ p = cc in ap (λ (r : Project). r.undeleted) (sym is) ∙ undeleted ∙ sound.undeleted name before at)
      (λ n _. sound.undeleted n);
  quota = each_put T.names name (Held project) (λ n found. (p : Project) → held_project found ≡ Some p → p.charge ≤ p.quota)
      (λ p e. let is : project ≡ p = cc in subst (λ (r : Project). r.charge ≤ r.quota) is quota)
      (λ n _. sound.quota n);
  bodies = sound.bodies;
  bytes = sound.bytes;
  bans = sound.bans;
}

-- ---- a name that is given to one user alone

module _ (T : Tables) (name owner : Bytes) where
  abbrev pub given : Pairs
  given = insert (without_name name T.owners) (name, owner) tt

  has-given : (n user : Bytes) → contains_key given (n, user)
      ≡ cond (same n name && same user owner) true (cond (not (same name n)) (owns_in T n user) false)
  has-given n user =
      has-put (without_name name T.owners) name owner n user
      ∙ ap (λ b. cond (same n name && same user owner) true b) (has-cleared T.owners name n user)

  pub given_owner : contains_key given (name, owner) ≡ true
  given_owner = has-given name owner ∙ (λ i. cond (same-refl name i && same-refl owner i) true
      (cond (not (same name name)) (owns_in T name owner) false))

  pub given_other : (n user : Bytes) → same n name ≡ false → contains_key given (n, user) ≡ owns_in T n user
  given_other n user other = has-given n user ∙
      (λ i. cond (other i && same user owner) true (cond (not (other-sym n name other i)) (owns_in T n user) false))

-- ---- a free name

module _ (T : Tables) (sound : IsSound T) (name : Bytes) (free : is_held (get T.names name) ≡ false) where
  none_of_free : (file : Bytes) (known : FileRecord) → get T.files file ≡ Some known → is_undeleted_of name known ≡ false
  none_of_free file known there = elim (cases_Bool (is_undeleted_of name known)) [
    | inl e ↦
        let parts = and_parts _ _ e in
        absurd (false≢true (sym free ∙ ap (λ n. is_held (get T.names n)) (same-is name known.project parts.1)
        ∙ sound.undeleted_held file known there parts.0))
    | inr e ↦ e
  ]

  -- a free name is charged nothing
  charge_in-free : charge_in T name ≡ 0
  charge_in-free = total-zero (charged_size name) T.files
      (λ file known there. ap (λ b. cond b known.size 0) (none_of_free file known there))

  pub undeleted_in-free : undeleted_count_in T name ≡ 0
  undeleted_in-free = total-zero (λ known. cond (is_undeleted_of name known) 1 0) T.files
      (λ file known there. ap (λ b. cond b 1 0) (none_of_free file known there))

  module _ (project : Project) (owner : Bytes) where
    abbrev claimed : Tables
    claimed = record T {
      names = insert T.names name (Held project);
      owners = given T name owner;
      yanks = without_name name T.yanks;
    }

    pub IsSound-claim : project.charge ≡ 0 → project.undeleted ≡ 0 → IsSound claimed
    IsSound-claim charge undeleted = record {
      one_bearer = sound.one_bearer;
      owners = each_put T.names name (Held project) (λ n found. (user : Bytes) → owns_in claimed n user ≡ true → is_held found ≡ true)
          (λ _ _. refl)
          (λ n other user owns. sound.owners n user (sym (given_other T name owner n user other) ∙ owns));
      owned = each_put T.names name (Held project) (λ n found. is_held found ≡ true → (user : Bytes) × (owns_in claimed n user ≡ true))
          (λ _. (owner, given_owner T name owner))
          (λ n other held. let one = sound.owned n held in (one.0, given_other T name owner n one.0 other ∙ one.1));
      yanks = each_put T.names name (Held project) (λ n found. (release : Bytes) → is_some (yank_in claimed n release) ≡ true
          → is_held found ≡ true)
          (λ _ _. refl)
          (λ n other release yanked. sound.yanks n release
          (sym (ap is_some (get-without_name_other T.yanks name n release (other-sym n name other))) ∙ yanked));
      cases = λ n is_open. still_held T name project n (sound.cases n is_open);
      spelled = sound.spelled;
      undeleted_held = λ file known there is. still_held T name project known.project (sound.undeleted_held file known there is);
      charge = each_put T.names name (Held project) (λ n found. (p : Project) → held_project found ≡ Some p → p.charge ≡ charge_in T n)
          (λ p e. let is : project ≡ p = cc in ap (λ (r : Project). r.charge) (sym is) ∙ charge ∙ sym charge_in-free)
          (λ n _. sound.charge n);
      undeleted = each_put T.names name (Held project) (λ n found. (p : Project) → held_project found ≡ Some p
          → p.undeleted ≡ undeleted_count_in T n)
          (λ p e. let is : project ≡ p = cc in ap (λ (r : Project). r.undeleted) (sym is) ∙ undeleted ∙ sym undeleted_in-free)
          (λ n _. sound.undeleted n);
      quota = each_put T.names name (Held project) (λ n found. (p : Project) → held_project found ≡ Some p → p.charge ≤ p.quota)
          (λ p e. let is : project ≡ p = cc in subst (λ (r : Project). r.charge ≤ r.quota) is (omega (arith, charge)))
          (λ n _. sound.quota n);
      bodies = sound.bodies;
      bytes = sound.bytes;
      bans = sound.bans;
    }
