-- The tables of a new index are sound.
use Rattle.index_rules.proofs.Words.{◌≡◌, Bool, true, false, cond, sym, ap, ◌∙◌, Option, Some, None, is_some, get, empty, get-empty}
use Rattle.index_rules.proofs.Words.{false≢true, UserRecord, Bytes, same, bytes_cmp, pair_cmp, held_project, is_held, is_undeleted}
use Rattle.index_rules.proofs.Words.{first_record, first_tables, IsSound}
use Rattle.index_rules.proofs.OwnerLists.{same-is}
use Rattle.index_rules.proofs.KeyLemmas.{get-put}

-- who is there is the first user
the_user : (user token u : Bytes) (x : UserRecord) → get (first_tables user token).users u ≡ Some x → u ≡ user
the_user user token u x at = by (same u user) (same-is u user)
    (sym (get-put empty user (first_record token) u ∙ ap (λ o. cond (same u user) (Some (first_record token)) o) (get-empty bytes_cmp u))
    ∙ at)
  where
    by : (b : Bool) → (b ≡ true → u ≡ user) → cond b (Some (first_record token)) None ≡ Some x → u ≡ user
    by true is at = is (cc)
    by false is at = cc

none_there : {X : Type 0} {found : Option X} {x : X} → found ≡ None → found ≡ Some x → ⊥
none_there none some = false≢true (ap is_some (sym none ∙ some))

pub IsSound-opened : (user token : Bytes) → IsSound (first_tables user token)
IsSound-opened user token = record {
  one_bearer = λ u v x y at_u at_v e. the_user user token u x at_u ∙ sym (the_user user token v y at_v);
  owners = λ name u owns. absurd (false≢true (sym (ap is_some (get-empty pair_cmp (name, u))) ∙ owns));
  owned = λ name held. absurd (false≢true (sym (ap is_held (get-empty bytes_cmp name)) ∙ held));
  yanks = λ name release yanked. absurd (false≢true (sym (ap is_some (get-empty pair_cmp (name, release))) ∙ yanked));
  cases = λ name is_open. absurd (false≢true (sym (ap is_some (get-empty bytes_cmp name)) ∙ is_open));
  spelled = λ file known at. absurd (none_there (get-empty bytes_cmp file) at);
  undeleted_held = λ file known at live. absurd (none_there (get-empty bytes_cmp file) at);
  charge = λ name project at. absurd (none_there (ap held_project (get-empty bytes_cmp name)) at);
  undeleted = λ name project at. absurd (none_there (ap held_project (get-empty bytes_cmp name)) at);
  quota = λ name project at. absurd (none_there (ap held_project (get-empty bytes_cmp name)) at);
  bodies = λ file. ap is_some (get-empty bytes_cmp file) ∙ sym (ap is_undeleted (get-empty bytes_cmp file));
  bytes = λ file body known at_body at. absurd (none_there (get-empty bytes_cmp file) at);
  bans = λ file banned. absurd (false≢true (sym (ap is_some (get-empty bytes_cmp file)) ∙ banned));
}
