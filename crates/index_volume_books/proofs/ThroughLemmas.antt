-- A write of places, as a write of bytes.
use Rattle.index_volume_books.proofs.Words.{◌≡◌, ◌⊎◌, inl, inr, ℕ, ◌≤◌, true, false, IsTrue, refl, sym, ap, ◌∙◌, subst, List, [], Option}
use Rattle.index_volume_books.proofs.Words.{Some, None, option_map, Result, Ok, Err, is_ok, take, ◌<◌, arith, OnOk, get, get-change_values}
use Rattle.index_volume_books.proofs.Words.{false≢true, Change, means, Bytes, Tables, bytes_at, over, Fits, has_body, with_stored}
use Rattle.index_volume_books.proofs.Words.{over_same, Side, BothHonest}
use Rattle.std.proofs.Common.{◌^◌}
use Rattle.std.specs.Result.{OnErr, IfOk}
use Rattle.std.proofs.lemmas.Nat.{from_be_bytes-to_be_bytes_8}
use Rattle.index_rules.specs.declared.answer.Fault.{Fault}
use Rattle.index_rules.specs.declared.change.Change.TheVariants as change
use Rattle.index_volume.specs.Places.{place_at, place_size, place_text}
use Rattle.index_volume_books.specs.Through.{FindsThrough, WritesThrough, left_of, both_tables}
use Rattle.index_volume_books.proofs.OverLemmas.{over_means, fits_means}

pub on_ok_map : {A E : Type 0} {P Q : Type 0} (r : Result A E) → (P → Q) → OnOk r P → OnOk r Q
on_ok_map (Ok x) f h = f h
on_ok_map (Err e) f h = tt

pub on_err_map : {A E : Type 0} {P Q : Type 0} (r : Result A E) → (P → Q) → OnErr r P → OnErr r Q
on_err_map (Ok x) f h = tt
on_err_map (Err e) f h = f h

pub on_err_of : {A E : Type 0} {P : Type 0} (r : Result A E) → P → OnErr r P
on_err_of (Ok x) p = tt
on_err_of (Err e) p = p

pub on_ok_at : {A E : Type 0} {P : Type 0} (r : Result A E) → OnOk r P → IsTrue (is_ok r) → P
on_ok_at (Ok x) h t = h
on_ok_at (Err e) h t = absurd (false≢true t)

-- what holds of both ends holds
pub by_result : {A E : Type 0} {P : Type 0} (r : Result A E) → OnOk r P → OnErr r P → P
by_result (Ok x) ok err = ok
by_result (Err e) ok err = err

-- only an upload has bytes
pub stored_other : (place : Bytes) (c : Change) → has_body c ≡ false → with_stored place c ≡ c
stored_other place (change.Upload name project file known body ends) other = absurd (false≢true (sym other))
stored_other place c other = refl

pub fits_other : (end : ℕ) (c : Change) (T : Tables) → has_body c ≡ false → Fits end T → Fits end (means c T)
fits_other end c T other fits = subst (λ d. Fits end (means d T)) (stored_other [] c other)
    (fits_means end [] c T fits (λ is. absurd (false≢true (sym other ∙ is))))

pub fits_written : {A E : Type 0} (r : Result A E) (end : ℕ) (old new changed : Tables) → Fits end old → Fits end changed
    → OnOk r (new ≡ changed) → OnErr r (new ≡ old) → Fits end new
fits_written (Ok x) end old new changed before after ok err = subst (Fits end) (sym ok) after
fits_written (Err e) end old new changed before after ok err = subst (Fits end) (sym err) before

-- places that a crash leaves after a write fit
pub fits_left : (end : ℕ) (old changed : Tables) (Honest : Type 0) (before : Tables → Type 0) (T : Tables)
    → ((P : Tables) → before P → Fits end P) → (Honest → Fits end changed)
    → before T ⊎ (Honest × (T ≡ changed)) → Fits end T
fits_left end old changed Honest before T each fits (inl was) = each T was
fits_left end old changed Honest before T each fits (inr it) = subst (Fits end) (sym it.1) (fits it.0)

module _ (r : Result (Unit {0}) Fault) (c : Change) (place body : Bytes) (end : ℕ) (old new : Side)
    (is : with_stored body c ≡ c)
    (fits : old.IsHonest → Fits end old.tables)
    (fits_after_crash : (T : Tables) → old.books_leave T → Fits end T)
    (stays : old.volume_leaves old.volume)
    (clean_before : IsTrue new.is_clean → IsTrue old.is_clean)
    (same : IsTrue old.is_clean → take end new.volume ≡ take end old.volume)
    (left : IsTrue old.is_clean → (d : List ℕ) → new.volume_leaves d → take end d ≡ take end old.volume)
    (left_changed : IsTrue old.is_clean → old.IsHonest → (d : List ℕ) → new.volume_leaves d
    → over d (means (with_stored place c) old.tables) ≡ over new.volume (means (with_stored place c) old.tables))
    (bytes : IsTrue old.is_clean → has_body c ≡ true → bytes_at new.volume place ≡ body)
    (honest : new.IsHonest → old.IsHonest) where
  -- the changed places are the changed bytes
  changed : IsTrue old.is_clean → old.IsHonest → over new.volume (means (with_stored place c) old.tables) ≡ means c (both_tables old)
  changed clean was =
      over_means new.volume place body c old.tables (bytes clean)
      ∙ ap (λ d. means d (over new.volume old.tables)) is
      ∙ ap (means c) (over_same end new.volume old.volume old.tables (fits was) (same clean))

  pub writes_through :
      (new.IsHonest → OnOk r (new.tables ≡ means (with_stored place c) old.tables))
      → (new.IsHonest → OnErr r (new.tables ≡ old.tables))
      → OnOk r (new.IsClean → new.IsHonest)
      → ((T : Tables) → new.books_leave T → old.books_leave T ⊎ (old.IsHonest × (T ≡ means (with_stored place c) old.tables)))
      → (old.IsHonest → OnOk r ((T : Tables) → new.books_leave T → T ≡ means (with_stored place c) old.tables))
      → (new.IsClean → old.IsClean)
      → WritesThrough old new c r
  writes_through written unchanged lasts crash alone clean = record {
    written = λ both. on_ok_map r (λ e. ap (over new.volume) e ∙ changed (clean_before both.1) (honest both.0)) (written both.0);
    unchanged = λ both. on_err_map r (λ e. ap (over new.volume) e
        ∙ over_same end new.volume old.volume old.tables (fits (honest both.0)) (same (clean_before both.1))) (unchanged both.0);
    lasts = lasts;
    crash = λ T it. by T it (crash it.1 it.3);
    alone = λ both. on_ok_map r (λ only T it. it.5 ∙ ap (over it.2) (only it.1 it.3) ∙ left_changed both.1 both.0 it.2 it.4
        ∙ changed both.1 both.0) (alone both.0);
    honest = honest;
    clean = clean;
    volume = clean_before;
  }
    where
      by : (T : Tables) (it : left_of new T) → old.books_leave it.1 ⊎ (old.IsHonest × (it.1 ≡ means (with_stored place c) old.tables))
          → left_of old T ⊎ (BothHonest old × (T ≡ means c (both_tables old)))
      by T it (inl was) = let clean = clean_before it.0 in
          inl (
            clean,
            it.1,
            old.volume,
            was,
            stays,
            it.5 ∙ over_same end it.2 old.volume it.1 (fits_after_crash it.1 was) (left clean it.2 it.4),
          )
      by T it (inr done) = let clean = clean_before it.0 in
          inr ((done.0, clean), it.5 ∙ ap (over it.2) done.1 ∙ left_changed clean done.0 it.2 it.4 ∙ changed clean done.0)

-- a write that failed at the volume
pub writes_nothing : (r : Result (Unit {0}) Fault) (c : Change) (end : ℕ) (old new : Side)
    → new.tables ≡ old.tables → ((T : Tables) → new.books_leave T → old.books_leave T) → (new.IsHonest → old.IsHonest)
    → (new.IsClean → old.IsClean)
    → (old.IsHonest → Fits end old.tables) → ((T : Tables) → old.books_leave T → Fits end T) → old.volume_leaves old.volume
    → (IsTrue new.is_clean → IsTrue old.is_clean)
    → (IsTrue old.is_clean → take end new.volume ≡ take end old.volume)
    → (IsTrue old.is_clean → (d : List ℕ) → new.volume_leaves d → take end d ≡ take end old.volume)
    → OnOk r ⊥ → WritesThrough old new c r
writes_nothing r c end old new is below honest clean fits after stays volume same left failed = record {
  written = λ both. on_ok_map r (λ no. absurd no) failed;
  unchanged = λ both. on_err_of r (ap (over new.volume) is
      ∙ over_same end new.volume old.volume old.tables (fits (honest both.0)) (same (volume both.1)));
  lasts = on_ok_map r (λ no. absurd no) failed;
  crash = λ T it. let clean = volume it.0 in
      inl (
        clean,
        it.1,
        old.volume,
        below it.1 it.3,
        stays,
        it.5 ∙ over_same end it.2 old.volume it.1 (after it.1 (below it.1 it.3)) (left clean it.2 it.4),
      );
  alone = λ both. on_ok_map r (λ no. absurd no) failed;
  honest = honest;
  clean = clean;
  volume = volume;
}

pub fits_more : (end more : ℕ) (T : Tables) → end ≤ more → Fits end T → Fits more T
fits_more end more T le fits = λ file place at.
    let it = fits file place at in
    record { size = it.size; within = omega (arith, it.within, le) }

-- ---- looks

pub finds_through : (r : Result (Option Bytes) Fault) (file : Bytes) (old new : Side)
    → (new.IsHonest → new.tables ≡ old.tables) → new.volume ≡ old.volume
    → ((T : Tables) → new.books_leave T → old.books_leave T) → ((d : List ℕ) → new.volume_leaves d → old.volume_leaves d)
    → (new.IsHonest → old.IsHonest) → (new.IsClean → old.IsClean) → (IsTrue new.is_clean → IsTrue old.is_clean)
    → (BothHonest new → IfOk r (λ it. it ≡ get (both_tables old).bodies file))
    → OnOk r (old.IsHonest → new.IsClean → new.IsHonest)
    → FindsThrough old new file r
finds_through r file old new unchanged seen below leaves honest clean volume found lasts = record {
  found = found;
  unchanged = λ both. (λ i. over (seen i) (unchanged both.0 i));
  lasts = lasts;
  crash = λ T it. (volume it.0, it.1, it.2, below it.1 it.3, leaves it.2 it.4, it.5);
  honest = honest;
  clean = clean;
  volume = volume;
}

-- no place, no bytes
pub found_none : (volume file : Bytes) (T : Tables) → None ≡ get T.bodies file → None ≡ get (over volume T).bodies file
found_none volume file T is = sym (get-change_values (bytes_at volume) T.bodies file ∙ ap (option_map (bytes_at volume)) (sym is))

-- a place, and the bytes there
pub found_some : (volume file place bytes : Bytes) (T : Tables) → Some place ≡ get T.bodies file → bytes ≡ bytes_at volume place
    → Some bytes ≡ get (over volume T).bodies file
found_some volume file place bytes T is read =
    ap Some read ∙ sym (get-change_values (bytes_at volume) T.bodies file ∙ ap (option_map (bytes_at volume)) (sym is))

-- ---- the text of a place

pub place_read : (at size : ℕ) → at < 2 ^ 64 → size < 2 ^ 64
    → (place_at (place_text at size) ≡ at) × (place_size (place_text at size) ≡ size)
place_read at size low small = (from_be_bytes-to_be_bytes_8 at low, from_be_bytes-to_be_bytes_8 size small)
