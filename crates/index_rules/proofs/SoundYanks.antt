-- Sound tables stay sound if a held name's release is yanked or unyanked.
use Rattle.index_rules.proofs.Words.{◌≡◌, Bool, true, false, cond, ◌&&◌, inl, inr, sym, ap, ◌∙◌, Option, Some, None, is_some, get, insert}
use Rattle.index_rules.proofs.Words.{remove, false≢true, cases_Bool, and_parts, Bytes, PairMap, same, Tables, yank_in, is_held, IsSound}
use Rattle.index_rules.proofs.OwnerLists.{same-is}
use Rattle.index_rules.proofs.KeyLemmas.{get-put_pair, get-without_pair}

-- whatever releases are yanked, if their names are held
IsSound-yanks : (T : Tables) → IsSound T → (yanks : PairMap Bytes)
    → ((name release : Bytes) → is_some (get yanks (name, release)) ≡ true → is_held (get T.names name) ≡ true)
    → IsSound (record T { yanks = yanks })
IsSound-yanks T sound yanks held = record {
  one_bearer = sound.one_bearer;
  owners = sound.owners;
  owned = sound.owned;
  yanks = held;
  cases = sound.cases;
  spelled = sound.spelled;
  undeleted_held = sound.undeleted_held;
  charge = sound.charge;
  undeleted = sound.undeleted;
  quota = sound.quota;
  bodies = sound.bodies;
  bytes = sound.bytes;
  bans = sound.bans;
}

pub IsSound-yank : (T : Tables) → IsSound T → (name release reason : Bytes) → is_held (get T.names name) ≡ true
    → IsSound (record T { yanks = insert T.yanks (name, release) reason })
IsSound-yank T sound name release reason held =
    IsSound-yanks T sound (insert T.yanks (name, release) reason) (λ n r yanked. elim (cases_Bool (same n name && same r release)) [
      | inl e ↦ ap (λ q. is_held (get T.names q)) (same-is n name (and_parts _ _ e).0) ∙ held
      | inr e ↦ sound.yanks n r (sym (ap is_some (get-put_pair T.yanks name release reason n r
          ∙ ap (λ b. cond b (Some reason) (yank_in T n r)) e)) ∙ yanked)
    ])

pub IsSound-no_yank : (T : Tables) → IsSound T → (name release : Bytes) → IsSound (record T { yanks = remove T.yanks (name, release) })
IsSound-no_yank T sound name release = IsSound-yanks T sound (remove T.yanks (name, release)) (λ n r left.
    sound.yanks n r (had (same n name && same r release) (yank_in T n r)
    (sym (ap is_some (get-without_pair T.yanks name release n r)) ∙ left)))
  where
    had : (b : Bool) (found : Option Bytes) → is_some (cond b None found) ≡ true → is_some found ≡ true
    had true found left = absurd (false≢true left)
    had false found left = left
