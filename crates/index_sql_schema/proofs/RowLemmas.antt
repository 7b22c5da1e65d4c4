-- The map that rows stand for, by their keys, and after the rows were written.
use Rattle.index_sql_schema.proofs.Words.{◌≡◌, ◌≤◌, Bool, true, false, cond, not, ◌&&◌, ◌||◌, List, [], ◌∷◌, ◌++◌, map, filter, find}
use Rattle.index_sql_schema.proofs.Words.{length, slice_get, refl, sym, ap, ◌∙◌, Some, None, option_map, IsPermutation, AllByRecursion}
use Rattle.index_sql_schema.proofs.Words.{list_any, Ordering, eq_by_cmp, IsTotalOrder, IsAntisymmetric, get, insert, remove, retain_keys}
use Rattle.index_sql_schema.proofs.Words.{get-retain_keys, same_map, eq_by_cmp_equiv, nat_list_cmp_total, IsPermutation-refl}
use Rattle.index_sql_schema.proofs.Words.{IsPermutation-cons, IsPermutation-trans, IsPermutation-middle, exact_bytes, IsAscending}
use Rattle.index_sql_schema.proofs.Words.{update_where, delete_where, filter-map, slice_get-filter, IsPermutation-filter, Bytes, bytes_cmp}
use Rattle.index_sql_schema.proofs.Words.{change_values, map_from}
use Rattle.std.specs.Option.{option_map_or}
use Rattle.std.specs.FinMap.{get-from_entries}
use Rattle.std.specs.FinMap as fin
use Rattle.std.specs.FinMap.Entries.{find-where_key}
use Rattle.index_rules.proofs.KeyLemmas.{get-change_values}
use Rattle.index_sql_schema.proofs.MapLemmas.{insert-remove, retain_keys-other}
use Rattle.index_sql_schema.proofs.Permutations.{one_passes, short_permutation}

pub or_false : (b : Bool) → (b || false) ≡ b
or_false true = refl
or_false false = refl

module _ {A K X : Type 0} {R : K → K → Ordering} (total : IsTotalOrder R) (exact : IsAntisymmetric R) (key : A → K) (value : A → X) where
  abbrev pub entry : A → K × X
  entry r = (key r, value r)

  -- the test of a key
  abbrev pub is_at : K → A → Bool
  is_at q r = eq_by_cmp R q (key r)

  -- no two rows have one key
  abbrev pub AreApart : List A → Type 0
  AreApart = IsAscending (λ a b. eq_by_cmp R (key a) (key b) ≡ false)

  find_entry : (rows : List A) (q : K) → fin.find R q (map entry rows) ≡ option_map value (find (is_at q) rows)
  find_entry [] q = refl
  find_entry (r ∷ rows) q = elim (is_at q r) as
      (λ b. cond b (Some (value r)) (fin.find R q (map entry rows)) ≡ option_map value (cond b (Some r) (find (is_at q) rows)))
      [ true ↦ refl | false ↦ find_entry rows q ]

  -- a key answers the first row that has it
  pub get-map_from : (rows : List A) (q : K) → get (map_from {R = R} key value rows) q ≡ option_map value (find (is_at q) rows)
  get-map_from rows q = get-from_entries total (map entry rows) q ∙ find_entry rows q

  one_at : (q : K) (a b : A) → eq_by_cmp R (key a) (key b) ≡ false → is_at q a ≡ true → is_at q b ≡ false
  one_at q a b apart here = (eq_by_cmp_equiv total).congr q (key a) (key b) here ∙ apart

  pub at_most_one : (q : K) (rows : List A) → AreApart rows → length (filter (is_at q) rows) ≤ 1
  at_most_one q rows apart = one_passes _ (is_at q) rows (one_at q) apart

  -- the order of the rows does not matter
  pub same_rows : (rows others : List A) → AreApart rows → IsPermutation rows others
      → map_from {R = R} key value rows ≡ map_from key value others
  same_rows rows others apart p = same_map total exact _ _ (λ q.
      let shorter = short_permutation (filter (is_at q) rows) (filter (is_at q) others) (at_most_one q rows apart)
      (IsPermutation-filter (is_at q) rows others p) in
      get-map_from rows q
      ∙ ap (option_map value) (sym (slice_get-filter (is_at q) rows) ∙ sym (ap (λ l. slice_get l 0) shorter)
      ∙ slice_get-filter (is_at q) others)
      ∙ sym (get-map_from others q))

  -- the rows whose keys fail a test go
  pub map_from-filter : (p : K → Bool) (rows : List A)
      → map_from {R = R} key value (filter (λ r. p (key r)) rows) ≡ retain_keys (map_from key value rows) p
  map_from-filter p rows = same_map total exact _ _ (λ q.
      get-from_entries total _ q
      ∙ ap (fin.find R q) (sym (filter-map (λ e. p e.0) entry rows))
      ∙ find-where_key R p q (λ x t. ap p (sym (exact q x t))) (map entry rows)
      ∙ ap (λ v. cond (p q) v None) (sym (get-from_entries total (map entry rows) q))
      ∙ sym (get-retain_keys (map_from key value rows) p q (λ x t. ap p (sym (exact q x t)))))

  -- the row at a key goes
  pub map_from-delete : (k : K) (rows : List A)
      → map_from {R = R} key value (delete_where (is_at k) rows) ≡ remove (map_from key value rows) k
  map_from-delete k rows = map_from-filter (λ x. not (eq_by_cmp R k x)) rows ∙ retain_keys-other total exact (map_from key value rows) k

  -- one row in place of those with its key
  pub map_from-put : (new : A) (rows : List A)
      → map_from {R = R} key value (new ∷ delete_where (is_at (key new)) rows) ≡ insert (map_from key value rows) (key new) (value new)
  map_from-put new rows =
      ap (λ m. insert m (key new) (value new)) (map_from-delete (key new) rows)
      ∙ insert-remove total exact (map_from key value rows) (key new) (value new)

  apart_rest : (q : K) (r : A) (rows : List A) (P : X → Bool) → is_at q r ≡ true
      → AllByRecursion (λ b. eq_by_cmp R (key r) (key b) ≡ false) rows → list_any (λ b. is_at q b && P (value b)) rows ≡ false
  apart_rest q r [] P here apart = refl
  apart_rest q r (b ∷ rows) P here apart = rw (one_at q r b apart.0 here) (apart_rest q r rows P here apart.1)

  -- some row has this key and passes exactly if the map has a value there that passes
  pub any_at : (q : K) (P : X → Bool) (rows : List A) → AreApart rows
      → list_any (λ r. is_at q r && P (value r)) rows ≡ option_map_or P (get (map_from {R = R} key value rows) q) false
  any_at q P rows apart = any_found rows apart ∙ ap (λ o. option_map_or P o false) (sym (get-map_from rows q))
    where
      any_found : (rows : List A) → AreApart rows
          → list_any (λ r. is_at q r && P (value r)) rows ≡ option_map_or P (option_map value (find (is_at q) rows)) false
      any_found [] apart = refl
      any_found (r ∷ rows) apart = go (is_at q r) refl (any_found rows apart.1)
        where
          go : (b : Bool) → is_at q r ≡ b → list_any (λ r. is_at q r && P (value r)) rows
              ≡ option_map_or P (option_map value (find (is_at q) rows)) false
              → ((b && P (value r)) || list_any (λ r. is_at q r && P (value r)) rows)
              ≡ option_map_or P (option_map value (cond b (Some r) (find (is_at q) rows))) false
          go true here more = rw (apart_rest q r rows P here apart.0) (or_false (P (value r)))
          go false here more = more

-- the values of some rows change, and the keys stay
module _ {A X : Type 0} (key : A → Bytes) (value : A → X) (p : A → Bool) (f : A → A) (change : X → X) (keeps : (r : A)
    → key (f r) ≡ key r) (does : (r : A) → value (cond (p r) (f r) r) ≡ change (value r)) where
  key_stays : (b : Bool) (r : A) → key (cond b (f r) r) ≡ key r
  key_stays true r = keeps r
  key_stays false r = refl

  abbrev has_key : Bytes → A → Bool
  has_key q r = eq_by_cmp bytes_cmp q (key r)

  found_changed : (q : Bytes) (rows : List A) → option_map value (find (has_key q) (update_where p f rows))
      ≡ option_map change (option_map value (find (has_key q) rows))
  found_changed q [] = refl
  found_changed q (r ∷ rows) = rw (key_stays (p r) r) (go (has_key q r) (found_changed q rows))
    where
      go : (b : Bool) → option_map value (find (has_key q) (update_where p f rows))
          ≡ option_map change (option_map value (find (has_key q) rows))
          → option_map value (cond b (Some (cond (p r) (f r) r)) (find (has_key q) (update_where p f rows)))
          ≡ option_map change (option_map value (cond b (Some r) (find (has_key q) rows)))
      go true more = ap Some (does r)
      go false more = more

  pub map_from-update : (rows : List A) → map_from {R = bytes_cmp} key value (update_where p f rows)
      ≡ change_values change (map_from key value rows)
  map_from-update rows = same_map nat_list_cmp_total exact_bytes _ _ (λ q.
      get-map_from nat_list_cmp_total exact_bytes key value (update_where p f rows) q
      ∙ found_changed q rows
      ∙ ap (option_map change) (sym (get-map_from nat_list_cmp_total exact_bytes key value rows q))
      ∙ sym (get-change_values change (map_from key value rows) q))

-- an update moves no row but within the list
pub split_update : {A : Type 0} (p : A → Bool) (f : A → A) (rows : List A)
    → IsPermutation (map f (filter p rows) ++ delete_where p rows) (update_where p f rows)
split_update p f [] = IsPermutation-refl []
split_update p f (r ∷ rows) = go (p r) (split_update p f rows)
  where
    go : (b : Bool) → IsPermutation (map f (filter p rows) ++ delete_where p rows) (update_where p f rows)
        → IsPermutation (map f (cond b (r ∷ filter p rows) (filter p rows)) ++ cond (not b) (r ∷ delete_where p rows) (delete_where p rows))
        (cond b (f r) r ∷ update_where p f rows)
    go true more = IsPermutation-cons (f r) _ _ more
    go false more = IsPermutation-trans _ _ _ (IsPermutation-middle (map f (filter p rows)) r (delete_where p rows))
        (IsPermutation-cons r _ _ more)
