-- Sound tables stay sound if a held name has one owner more, or one less of several.
use Rattle.index_rules.proofs.Words.{◌≡◌, Bool, true, false, cond, not, ◌&&◌, ◌||◌, ◌⊎◌, inl, inr, refl, sym, ap, ◌∙◌, List, [], ◌∷◌}
use Rattle.index_rules.proofs.Words.{list_any, list_all, eq_by_cmp, get, insert, remove, keys, contains_key-keys, true≢false, false≢true}
use Rattle.index_rules.proofs.Words.{cases_Bool, and_parts, and_from, or_parts, or_left, or_right, not-false, Bytes, same, pair_cmp, Tables}
use Rattle.index_rules.proofs.Words.{owns_in, owns_alone_in, is_held, IsSound}
use Rattle.index_rules.proofs.OwnerLists.{same-is, same_pair}
use Rattle.index_rules.proofs.KeyLemmas.{same-refl, cases_same, has-put, has-without}
use Rattle.index_rules.proofs.PutLemmas.{other-sym}

pub IsSound-owner : (T : Tables) → IsSound T → (name owner : Bytes) → is_held (get T.names name) ≡ true
    → IsSound (record T { owners = insert T.owners (name, owner) tt })
IsSound-owner T sound name owner held = record {
  one_bearer = sound.one_bearer;
  owners = λ n user owns. elim (cases_Bool (same n name && same user owner)) [
    | inl e ↦ ap (λ q. is_held (get T.names q)) (same-is n name (and_parts _ _ e).0) ∙ held
    | inr e ↦ sound.owners n user (sym (has-put T.owners name owner n user ∙ ap (λ b. cond b true (owns_in T n user)) e) ∙ owns)
  ];
  owned = λ n held. let one = sound.owned n held in
      (one.0, has-put T.owners name owner n one.0 ∙ either (same n name && same one.0 owner) (owns_in T n one.0) one.1);
  yanks = sound.yanks;
  cases = sound.cases;
  spelled = sound.spelled;
  undeleted_held = sound.undeleted_held;
  charge = sound.charge;
  undeleted = sound.undeleted;
  quota = sound.quota;
  bodies = sound.bodies;
  bytes = sound.bytes;
  bans = sound.bans;
}
  where
    either : (a b : Bool) → b ≡ true → cond a true b ≡ true
    either true b is = refl
    either false b is = is

-- ---- one owner less

-- if not all pairs pass a test, one of them does not
failing_pair : (p : Bytes × Bytes → Bool) (pairs : List (Bytes × Bytes)) → list_all p pairs ≡ false
    → (pair : Bytes × Bytes) × (p pair ≡ false) × (list_any (eq_by_cmp pair_cmp pair) pairs ≡ true)
failing_pair p [] e = absurd (true≢false e)
failing_pair p (pair ∷ pairs) e = elim (cases_Bool (p pair)) [
  | inl passes ↦
      let rest = failing_pair p pairs (sym (λ i. passes i && list_all p pairs) ∙ e) in
      (rest.0, rest.1, or_right _ _ rest.2)
  | inr fails ↦ (pair, fails, or_left _ _ (same_pair pair pair ∙ and_from _ _ (same-refl pair.0) (same-refl pair.1)))
]

-- an owner who is not the only one is not alone
another_owner : (T : Tables) (name owner : Bytes) → owns_in T name owner ≡ true → owns_alone_in T name owner ≡ false
    → (user : Bytes) × (owns_in T name user ≡ true) × (same user owner ≡ false)
another_owner T name owner owns sole =
    let some_fails : list_all (λ pair. not (same name pair.0) || same owner pair.1) (keys T.owners) ≡ false =
    sym (λ i. owns i && list_all (λ pair. not (same name pair.0) || same owner pair.1) (keys T.owners)) ∙ sole in
    let found = failing_pair (λ pair. not (same name pair.0) || same owner pair.1) (keys T.owners) some_fails in
    let parts = or_parts _ _ found.1 in (
      found.0.1,
      ap (λ n. owns_in T n found.0.1) (same-is name found.0.0 (not-false _ parts.0)) ∙ contains_key-keys T.owners found.0 ∙ found.2,
      other-sym owner found.0.1 parts.1,
    )

pub IsSound-no_owner : (T : Tables) → IsSound T → (name owner : Bytes) → owns_in T name owner ≡ true → owns_alone_in T name owner ≡ false
    → IsSound (record T { owners = remove T.owners (name, owner) })
IsSound-no_owner T sound name owner owns sole = record {
  one_bearer = sound.one_bearer;
  owners = λ n user left. sound.owners n user (had (same n name && same user owner) (owns_in T n user)
      (sym (has-without T.owners name owner n user) ∙ left));
  owned = λ n held. elim (cases_same n name) [
    | inl e ↦
        let other = another_owner T name owner owns sole in (
          other.0,
          has-without T.owners name owner n other.0
              ∙ kept (same n name) (same other.0 owner) (owns_in T n other.0) (inr other.2) (ap (λ q. owns_in T q other.0) e ∙ other.1),
        )
    | inr e ↦
        let one = sound.owned n held in
        (one.0, has-without T.owners name owner n one.0 ∙ kept (same n name) (same one.0 owner) (owns_in T n one.0) (inl e) one.1)
  ];
  yanks = sound.yanks;
  cases = sound.cases;
  spelled = sound.spelled;
  undeleted_held = sound.undeleted_held;
  charge = sound.charge;
  undeleted = sound.undeleted;
  quota = sound.quota;
  bodies = sound.bodies;
  bytes = sound.bytes;
  bans = sound.bans;
}
  where
    had : (a b : Bool) → cond a false b ≡ true → b ≡ true
    had true b left = absurd (false≢true left)
    had false b left = left

    kept : (a b c : Bool) → (a ≡ false) ⊎ (b ≡ false) → c ≡ true → cond (a && b) false c ≡ true
    kept true true c either is = absurd (elim either [ inl e ↦ true≢false e | inr e ↦ true≢false e ])
    kept true false c either is = is
    kept false b c either is = is
