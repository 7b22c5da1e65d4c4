-- The owners of a name, and what stands at a name in a table by pairs.
use Rattle.index_plain.proofs.Words.{◌≡◌, not, sym, ap, ◌∙◌, List, [], Option, Some, None, is_some, eq_by_cmp, list_any, IsStrictlySortedBy}
use Rattle.index_plain.proofs.Words.{BTreeMap, is_at, empty, get, get-empty, insert, retain_keys, nat_list_cmp_total, exact_bytes, Bytes}
use Rattle.index_plain.proofs.Words.{Map, Pairs, bytes_cmp, Tables, without_name, map_of, pairs_of, without_first}
use Rattle.std.specs.BTreeMap as tree
use Rattle.std.proofs.lemmas.Map.Made.{is_some-lookup}
use Rattle.std.proofs.lemmas.Map.Text.{is_eq-slice_cmp}
use Rattle.index_rules.specs.Maps.{PairMap}
use Rattle.index_rules.specs.Tables.{owners_in}
use Rattle.index_rules.proofs.Rising.{same_rising}
use Rattle.index_rules.proofs.OwnerLists.{list_any-owners_in, IsStrictlySortedBy-owners_in}
use Rattle.index_plain.proofs.TreeLemmas.{get_map}
use Rattle.index_plain.proofs.PairLemmas.{inner_of, get_pairs, pairs_alone}

-- ---- the owners of a name

-- the users of the inner map at a name
abbrev users_at : Option (BTreeMap Bytes (Unit {0})) → List Bytes
users_at None = []
users_at (Some users) = tree.keys users

has : (at : Option (BTreeMap Bytes (Unit {0}))) (user : Bytes)
    → list_any (eq_by_cmp bytes_cmp user) (users_at at) ≡ is_some (get (inner_of bytes_cmp at) user)
has None user = sym (ap is_some (get-empty bytes_cmp user))
has (Some users) user = sym (ap is_some (get_map nat_list_cmp_total users user) ∙ is_some-lookup (is_at (bytes_cmp user)) users.entries)

module _ (T : Tables) (m : Map (BTreeMap Bytes (Unit {0}))) (name : Bytes) (is : T.owners ≡ pairs_of bytes_cmp bytes_cmp m) where
  all : (at : Option (BTreeMap Bytes (Unit {0}))) → get m name ≡ at → IsStrictlySortedBy bytes_cmp (users_at at)
      → users_at at ≡ owners_in T name
  all at there up = same_rising nat_list_cmp_total exact_bytes _ _ up (IsStrictlySortedBy-owners_in T name) (λ user.
      has at user ∙ ap (λ x. is_some (get (inner_of bytes_cmp x) user)) (sym there)
      ∙ ap is_some (sym (get_pairs nat_list_cmp_total nat_list_cmp_total exact_bytes exact_bytes m name user))
      ∙ ap (λ (p : Pairs). is_some (get p (name, user))) (sym is) ∙ sym (list_any-owners_in T name user)
      ∙ (λ i. list_any (λ x. sym (is_eq-slice_cmp user x) i) (owners_in T name)))

  pub owners_found : (users : BTreeMap Bytes (Unit {0})) → get m name ≡ Some users → tree.IsOrdered bytes_cmp users
      → tree.keys users ≡ owners_in T name
  owners_found users there up = all (Some users) there up

  pub no_owners : get m name ≡ None → [] ≡ owners_in T name
  unfolding IsStrictlySortedBy
  no_owners there = all None there tt

-- ---- all that stands at a name

first_is_name : {X : Type 0} (name : Bytes) (m : PairMap X) → without_first bytes_cmp bytes_cmp name m ≡ without_name name m
first_is_name name m = λ i. retain_keys m (λ pair. not (is_eq-slice_cmp name pair.0 i))

-- one pair comes in its place
pub name_alone : {X : Type 0} (m n : Map (BTreeMap Bytes X)) (name : Bytes) (alone : BTreeMap Bytes X) (user : Bytes) (x : X)
    → map_of bytes_cmp alone ≡ insert empty user x → n ≡ insert m name alone
    → pairs_of bytes_cmp bytes_cmp n ≡ insert (without_name name (pairs_of bytes_cmp bytes_cmp m)) (name, user) x
name_alone m n name alone user x one there =
    pairs_alone nat_list_cmp_total nat_list_cmp_total exact_bytes exact_bytes m n name alone there user x one
    ∙ ap (λ t. insert t (name, user) x) (first_is_name name (pairs_of bytes_cmp bytes_cmp m))

-- so does one pair in a table by pairs
pub alone_in_place : {X : Type 0} (m n : PairMap X) (name user : Bytes) (x : X)
    → n ≡ insert (without_first bytes_cmp bytes_cmp name m) (name, user) x → n ≡ insert (without_name name m) (name, user) x
alone_in_place m n name user x there = there ∙ ap (λ t. insert t (name, user) x) (first_is_name name m)

-- it goes
pub name_gone : {X : Type 0} (m n : PairMap X) (name : Bytes) → n ≡ without_first bytes_cmp bytes_cmp name m → n ≡ without_name name m
name_gone m n name gone = gone ∙ first_is_name name m
