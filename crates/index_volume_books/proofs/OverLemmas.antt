-- What changes do to tables over a volume.
use Rattle.index_volume_books.proofs.Words.{◌≡◌, ℕ, Bool, true, false, cond, not, refl, sym, ap, ◌∙◌, subst, Option, Some, None, option_map}
use Rattle.index_volume_books.proofs.Words.{get, Bytes, Tables, means, Change, get-change_values, LiesBelow, bytes_at, over, Fits, has_body}
use Rattle.index_volume_books.proofs.Words.{with_stored}
use Rattle.std.specs.FinMap.{insert, remove, retain_keys, same_map}
use Rattle.std.proofs.lemmas.Cmp.{nat_list_cmp_total}
use Rattle.std.proofs.lemmas.Map.Lookups.{exact_bytes}
use Rattle.index_rules.specs.Maps.{Map, same, change_values}
use Rattle.index_rules.specs.Effect.{is_file_of}
use Rattle.index_rules.specs.declared.change.Change.TheVariants as change
use Rattle.index_rules.proofs.KeyLemmas.{get-put, get-without, get-kept}

module _ (f : Bytes → Bytes) (m : Map Bytes) where
  map-cond_some : (b : Bool) (v : Bytes) (x : Option Bytes) → option_map f (cond b (Some v) x) ≡ cond b (Some (f v)) (option_map f x)
  map-cond_some true v x = refl
  map-cond_some false v x = refl

  map-cond_none : (b : Bool) (x : Option Bytes) → option_map f (cond b None x) ≡ cond b None (option_map f x)
  map-cond_none true x = refl
  map-cond_none false x = refl

  map-cond_kept : (b : Bool) (x : Option Bytes) → option_map f (cond b x None) ≡ cond b (option_map f x) None
  map-cond_kept true x = refl
  map-cond_kept false x = refl

  pub put_changed : (k v : Bytes) → change_values f (insert m k v) ≡ insert (change_values f m) k (f v)
  put_changed k v = same_map nat_list_cmp_total exact_bytes _ _ (λ q.
      get-change_values f (insert m k v) q ∙ ap (option_map f) (get-put m k v q) ∙ map-cond_some (same q k) v (get m q)
      ∙ sym (get-put (change_values f m) k (f v) q ∙ ap (cond (same q k) (Some (f v))) (get-change_values f m q)))

  pub without_changed : (k : Bytes) → change_values f (remove m k) ≡ remove (change_values f m) k
  without_changed k = same_map nat_list_cmp_total exact_bytes _ _ (λ q.
      get-change_values f (remove m k) q ∙ ap (option_map f) (get-without m k q) ∙ map-cond_none (same q k) (get m q)
      ∙ sym (get-without (change_values f m) k q ∙ ap (cond (same q k) None) (get-change_values f m q)))

  pub kept_changed : (p : Bytes → Bool) → change_values f (retain_keys m p) ≡ retain_keys (change_values f m) p
  kept_changed p = same_map nat_list_cmp_total exact_bytes _ _ (λ q.
      get-change_values f (retain_keys m p) q ∙ ap (option_map f) (get-kept m p q) ∙ map-cond_kept (p q) (get m q)
      ∙ sym (get-kept (change_values f m) p q ∙ ap (λ x. cond (p q) x None) (get-change_values f m q)))

-- a change of the places is the same change of the bytes
pub over_means : (volume place body : Bytes) (c : Change) (T : Tables) → (has_body c ≡ true → bytes_at volume place ≡ body)
    → over volume (means (with_stored place c) T) ≡ means (with_stored body c) (over volume T)
over_means volume place body (change.AddUser _ _) T is = refl
over_means volume place body (change.SetToken _ _) T is = refl
over_means volume place body (change.SetQuota _ _) T is = refl
over_means volume place body (change.Claim _ _ _) T is = refl
over_means volume place body (change.AddOwner _ _) T is = refl
over_means volume place body (change.RemoveOwner _ _) T is = refl
over_means volume place body (change.Upload name project file known _ ends) T is =
    ap (λ m. record (means (change.Upload name project file known body ends) T) { bodies = m })
    (put_changed (bytes_at volume) T.bodies file place ∙ ap (insert (change_values (bytes_at volume) T.bodies) file) (is refl))
over_means volume place body (change.Delete name project file known) T is =
    ap (λ m. record (means (change.Delete name project file known) T) { bodies = m }) (without_changed (bytes_at volume) T.bodies file)
over_means volume place body (change.BanFile name project file known) T is =
    ap (λ m. record (means (change.BanFile name project file known) T) { bodies = m }) (without_changed (bytes_at volume) T.bodies file)
over_means volume place body (change.Yank _ _ _) T is = refl
over_means volume place body (change.Unyank _ _) T is = refl
over_means volume place body (change.Relinquish _) T is = refl
over_means volume place body (change.Prohibit name) T is =
    ap (λ m. record (means (change.Prohibit name) T) { bodies = m })
    (kept_changed (bytes_at volume) T.bodies (λ file. not (is_file_of T.files name file)))
over_means volume place body (change.Allow _) T is = refl
over_means volume place body (change.OpenCase _ _) T is = refl
over_means volume place body (change.RecordAttempt _ _) T is = refl
over_means volume place body (change.Transfer _ _) T is = refl
over_means volume place body (change.CloseCase _) T is = refl
over_means volume place body (change.AnswerCase _) T is = refl

-- ---- what still fits

-- what holds of each found value holds after a put of one of which it holds, a removal, a filter
module _ (P : Bytes → Type 0) (m : Map Bytes) (each : (q v : Bytes) → get m q ≡ Some v → P v) where
  put_of : (b : Bool) (k w : Bytes) (q v : Bytes) → P w → cond b (Some w) (get m q) ≡ Some v → P v
  put_of true k w q v here e = subst P (cc) here
  put_of false k w q v here e = each q v e

  pub each_of_put : (k w : Bytes) → P w → (q v : Bytes) → get (insert m k w) q ≡ Some v → P v
  each_of_put k w here q v e = put_of (same q k) k w q v here (sym (get-put m k w q) ∙ e)

  none_of : (b : Bool) (q v : Bytes) → cond b None (get m q) ≡ Some v → P v
  none_of true q v e = absurd cc
  none_of false q v e = each q v e

  pub each_of_rest : (k : Bytes) → (q v : Bytes) → get (remove m k) q ≡ Some v → P v
  each_of_rest k q v e = none_of (same q k) q v (sym (get-without m k q) ∙ e)

  kept_of : (b : Bool) (q v : Bytes) → cond b (get m q) None ≡ Some v → P v
  kept_of true q v e = each q v e
  kept_of false q v e = absurd cc

  pub each_of_kept : (p : Bytes → Bool) → (q v : Bytes) → get (retain_keys m p) q ≡ Some v → P v
  each_of_kept p q v e = kept_of (p q) q v (sym (get-kept m p q) ∙ e)

-- places that fit still fit after a change whose place fits
pub fits_means : (end : ℕ) (place : Bytes) (c : Change) (T : Tables) → Fits end T → (has_body c ≡ true → LiesBelow end place)
    → Fits end (means (with_stored place c) T)
fits_means end place (change.AddUser _ _) T fits new = fits
fits_means end place (change.SetToken _ _) T fits new = fits
fits_means end place (change.SetQuota _ _) T fits new = fits
fits_means end place (change.Claim _ _ _) T fits new = fits
fits_means end place (change.AddOwner _ _) T fits new = fits
fits_means end place (change.RemoveOwner _ _) T fits new = fits
fits_means end place (change.Upload name project file known _ ends) T fits new =
    each_of_put (LiesBelow end) T.bodies fits file place (new refl)
fits_means end place (change.Delete name project file known) T fits new = each_of_rest (LiesBelow end) T.bodies fits file
fits_means end place (change.BanFile name project file known) T fits new = each_of_rest (LiesBelow end) T.bodies fits file
fits_means end place (change.Yank _ _ _) T fits new = fits
fits_means end place (change.Unyank _ _) T fits new = fits
fits_means end place (change.Relinquish _) T fits new = fits
fits_means end place (change.Prohibit name) T fits new =
    each_of_kept (LiesBelow end) T.bodies fits (λ file. not (is_file_of T.files name file))
fits_means end place (change.Allow _) T fits new = fits
fits_means end place (change.OpenCase _ _) T fits new = fits
fits_means end place (change.RecordAttempt _ _) T fits new = fits
fits_means end place (change.Transfer _ _) T fits new = fits
fits_means end place (change.CloseCase _) T fits new = fits
fits_means end place (change.AnswerCase _) T fits new = fits
