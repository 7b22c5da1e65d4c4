-- Sound tables stay sound if a case is opened or ends, or a held name is transferred.
use Rattle.index_rules.proofs.Words.{◌≡◌, true, inl, inr, sym, ap, ◌∙◌, is_some, get, insert, remove, contains_key, false≢true, CaseRecord}
use Rattle.index_rules.proofs.Words.{Bytes, Map, Tables, is_held, IsSound}
use Rattle.index_rules.proofs.KeyLemmas.{cases_same}
use Rattle.index_rules.proofs.PutLemmas.{each_put, each_without}
use Rattle.index_rules.proofs.SoundNames.{given, given_owner, given_other}

-- whatever cases are open, if their names are held
IsSound-cases : (T : Tables) → IsSound T → (cases : Map CaseRecord)
    → ((name : Bytes) → is_some (get cases name) ≡ true → is_held (get T.names name) ≡ true) → IsSound (record T { cases = cases })
IsSound-cases T sound cases held = record {
  one_bearer = sound.one_bearer;
  owners = sound.owners;
  owned = sound.owned;
  yanks = sound.yanks;
  cases = held;
  spelled = sound.spelled;
  undeleted_held = sound.undeleted_held;
  charge = sound.charge;
  undeleted = sound.undeleted;
  quota = sound.quota;
  bodies = sound.bodies;
  bytes = sound.bytes;
  bans = sound.bans;
}

-- the tables with no case of a name
abbrev pub closed : Bytes → Tables → Tables
closed name T = record T { cases = remove T.cases name }

pub IsSound-closed : (T : Tables) → IsSound T → (name : Bytes) → IsSound (closed name T)
IsSound-closed T sound name = IsSound-cases T sound (remove T.cases name)
    (each_without T.cases name (λ n found. is_some found ≡ true
    → is_held (get T.names n) ≡ true) (λ is_open. absurd (false≢true is_open)) (λ n _. sound.cases n))

pub IsSound-case : (T : Tables) → IsSound T → (name : Bytes) (case : CaseRecord) → is_held (get T.names name) ≡ true
    → IsSound (record T { cases = insert T.cases name case })
IsSound-case T sound name case held = IsSound-cases T sound (insert T.cases name case)
    (each_put T.cases name case (λ n found. is_some found ≡ true → is_held (get T.names n) ≡ true) (λ _. held) (λ n _. sound.cases n))

-- ---- a held name that is given to one user alone

pub IsSound-transfer : (T : Tables) → IsSound T → (name candidate : Bytes) → is_held (get T.names name) ≡ true
    → IsSound (record T { owners = given T name candidate })
IsSound-transfer T sound name candidate held = record {
  one_bearer = sound.one_bearer;
  owners = λ n user owns. elim (cases_same n name) [
    | inl e ↦ ap (λ q. is_held (get T.names q)) e ∙ held
    | inr other ↦ sound.owners n user (sym (given_other T name candidate n user other) ∙ owns)
  ];
  owned = λ n is_kept. elim (cases_same n name) [
    | inl e ↦ (candidate, ap (λ q. contains_key (given T name candidate) (q, candidate)) e ∙ given_owner T name candidate)
    | inr other ↦ let one = sound.owned n is_kept in (one.0, given_other T name candidate n one.0 other ∙ one.1)
  ];
  yanks = sound.yanks;
  cases = sound.cases;
  spelled = sound.spelled;
  undeleted_held = sound.undeleted_held;
  charge = sound.charge;
  undeleted = sound.undeleted;
  quota = sound.quota;
  bodies = sound.bodies;
  bytes = sound.bytes;
  bans = sound.bans;
}
