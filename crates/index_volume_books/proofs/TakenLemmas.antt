-- Books and a volume that are taken together, or not.
use Rattle.index_volume_books.proofs.Words.{◌≡◌, ◌≢◌, ◌∙◌, ap, refl, sym, subst, subst₂, ℕ, ◌≤◌, ◌<◌, true, List, IsTrue, Option, Some}
use Rattle.index_volume_books.proofs.Words.{None, option_map, Result, Ok, Err, length, take, arith, false≢true, get, OnOk, Bytes, Tables}
use Rattle.index_volume_books.proofs.Words.{get-change_values, LiesBelow, bytes_at, place_end, IsLast, Fits, over, AreSettled, AreTaken}
use Rattle.index_volume_books.proofs.Words.{BothHonest, Side}
use Rattle.std.proofs.Common.{is_some}
use Rattle.std.specs.Result.{IfErr}
use Rattle.sqlite_disk.specs.Disk.{Only}
use Rattle.index_digest.specs.Digest.{sha256}
use Rattle.index_rules.specs.Sound.{IsSound}
use Rattle.index_rules.specs.Verdict.{is_undeleted}
use Rattle.index_rules.specs.declared.records.FileRecord.{FileRecord}
use Rattle.index_volume.specs.Volume.{Keeps}
use Rattle.index_volume_books.specs.declared.adopt.TakeFault.{TakeFault}
use Rattle.index_volume_books.specs.declared.adopt.TakeFault.TheVariants as fault
use Rattle.index_volume_books.specs.Last.{HasBytesOf, IsDigestOf, IsVolumeOf}
use Rattle.index_volume_books.specs.Taken.{AreFit, AreUntaken, EndsBehind, HasOtherBytes, LooksAtLast}
use Rattle.index_volume_books.proofs.ThroughLemmas.{fits_more}

-- what settled them twice settled them
pub settled_then : (a b c : Side) → AreSettled a b → AreSettled b c → AreSettled a c
settled_then a b c ab bc = record {
  unchanged = λ h. bc.unchanged h ∙ ab.unchanged (bc.honest h);
  volume = bc.volume ∙ ab.volume;
  honest = λ h. ab.honest (bc.honest h);
  clean = λ h. ab.clean (bc.clean h);
  volume_clean = λ h. ab.volume_clean (bc.volume_clean h);
  books_crash = λ T it. ab.books_crash T (bc.books_crash T it);
  volume_crash = λ d it. ab.volume_crash d (bc.volume_crash d it);
}

-- ---- the look at the last file

module _ (end : ℕ) (last : Bytes) (old new : Side) (settled : AreSettled old new) where
  same_text : (stored place : Bytes) → Some stored ≡ get old.tables.bodies last → get old.tables.bodies last ≡ Some place → stored ≡ place
  same_text stored place is at = let both : Some stored ≡ Some place = is ∙ at in cc

  -- a look that found something, and the bytes at its place
  pub looks_with : (stored digest : Bytes) (r : Result (Unit {0}) TakeFault) → (old.IsHonest → new.IsClean → new.IsHonest)
      → ((T : Tables) → new.books_leave T → new.IsHonest)
      → (new.IsHonest → Some stored ≡ get old.tables.bodies last) → (new.IsHonest → IsDigestOf old.tables last digest)
      → OnOk r (LiesBelow end stored) → IfErr r (λ why. why ≡ fault.TooShort → end < place_end stored)
      → OnOk r (IsTrue new.is_clean → sha256 (bytes_at old.volume stored) ≡ digest)
      → IfErr r (λ why. why ≡ fault.OtherVolume → IsTrue new.is_clean → sha256 (bytes_at old.volume stored) ≢ digest)
      → LooksAtLast end last old new r
  looks_with stored digest (Ok done) lasts works found digest_is below short own other = record {
    settled = settled;
    lasts = lasts;
    works = works;
    below = λ h place at. subst (LiesBelow end) (same_text stored place (found h) at) below;
    own = λ both place at known same. ap (λ text. sha256 (bytes_at old.volume text)) (sym (same_text stored place (found both.0) at))
        ∙ own both.1 ∙ digest_is both.0 known same;
    short = tt;
    other = tt;
  }
  looks_with stored digest (Err why) lasts works found digest_is below short own other = record {
    settled = settled;
    lasts = tt;
    works = tt;
    below = tt;
    own = tt;
    short = λ is h. (stored, sym (found h), short is);
    other = λ is both. (last, stored, sym (found both.0), λ known at same. other is both.1 (same ∙ sym (digest_is both.0 known at)));
  }

  -- a look that failed for another reason
  pub looks_in_vain : (why : TakeFault) → why ≢ fault.TooShort → why ≢ fault.OtherVolume → LooksAtLast end last old new (Err why)
  looks_in_vain why short other = record {
    settled = settled;
    lasts = tt;
    works = tt;
    below = tt;
    own = tt;
    short = λ is. absurd (short is);
    other = λ is. absurd (other is);
  }

-- ---- what fits, and what does not

module _ (end : ℕ) (old mid : Side) (settled : AreSettled old mid) (end_is : IsTrue mid.is_clean
    → end ≡ length old.volume) (only : Only old.volume mid.volume_leaves) where
  -- books without a place
  pub fit_none : (mid.IsHonest → IsLast old.tables None) → (old.IsHonest → mid.IsClean → mid.IsHonest)
      → ((T : Tables) → mid.books_leave T → mid.IsHonest)
      → (mid.IsHonest → (T : Tables) → mid.books_leave T → T ≡ mid.tables) → AreFit end old mid
  fit_none none lasts works law = record {
    settled = settled;
    end_is = end_is;
    fits = fits;
    own = λ both. (None, none both.0, tt);
    lasts = lasts;
    places_alone = λ T it. let h = works T it in let is : T ≡ old.tables = law h T it ∙ settled.unchanged h in
        (is, subst (Fits end) (sym is) (fits h));
    volume_alone = only;
  }
    where
      fits : mid.IsHonest → Fits end old.tables
      fits h = λ file place at. absurd (none h file place at)

  -- books whose last place lies below the end
  pub fit_last : (last : Bytes) (new : Side) → (mid.IsHonest → IsLast old.tables (Some last)) → (old.IsHonest → mid.IsClean → mid.IsHonest)
      → LooksAtLast end last mid new (Ok tt) → (new.IsHonest → (T : Tables) → new.books_leave T → T ≡ new.tables) → AreFit end old new
  fit_last last new found lasts look law = record {
    settled = both;
    end_is = λ clean. end_is (look.settled.volume_clean clean);
    fits = fits;
    own = own;
    lasts = λ h clean. look.lasts (lasts h (look.settled.clean clean)) clean;
    places_alone = λ T it. let h = look.works T it in let is : T ≡ old.tables = law h T it ∙ both.unchanged h in
        (is, subst (Fits end) (sym is) (fits h));
    volume_alone = λ c it. only c (look.settled.volume_crash c it);
  }
    where
      both : AreSettled old new
      both = settled_then old mid new settled look.settled

      own : BothHonest new → IsVolumeOf old.tables old.volume
      own both_honest =
          let before = look.settled.honest both_honest.0 in
          (Some last, found before, subst₂ (λ c T. HasBytesOf c T last) settled.volume (settled.unchanged before) (look.own both_honest))

      fits : new.IsHonest → Fits end old.tables
      fits h =
          let before = look.settled.honest h in
          let it = found before in
          let at : get mid.tables.bodies last ≡ Some it.0 = (λ i. get (settled.unchanged before i).bodies last) ∙ it.1 in
          fits_more (place_end it.0) end old.tables (look.below h it.0 at).within it.2

  -- a volume whose last file is not as it has to be
  pub refused_by_last : (last : Bytes) (new : Side) (why : TakeFault) → LooksAtLast end last mid new (Err why) → AreUntaken why old new
  refused_by_last last new why look = record {
    settled = settled_then old mid new settled look.settled;
    short = λ is both.
        let before = look.settled.honest both.0 in
        let it = look.short is both.0 in (
          last,
          it.0,
          (λ i. get (sym (settled.unchanged before) i).bodies last) ∙ it.1,
          subst (λ n. n < place_end it.0) (end_is (look.settled.volume_clean both.1)) it.2,
        );
    other = λ is both. subst₂ HasOtherBytes settled.volume (settled.unchanged (look.settled.honest both.0)) (look.other is both);
  }

pub refused_for : (why : TakeFault) (old new : Side) → AreSettled old new → why ≢ fault.TooShort → why ≢ fault.OtherVolume
    → AreUntaken why old new
refused_for why old new settled short other = record {
  settled = settled;
  short = λ is. absurd (short is);
  other = λ is. absurd (other is);
}

module _ (end : ℕ) (old new : Side) (fit : AreFit end old new) where
  pub taken_by : AreTaken old new
  taken_by = record {
    settled = fit.settled;
    fits = λ both. subst (λ n. Fits n old.tables) (fit.end_is both.1) (fit.fits both.0);
    own = fit.own;
    lasts = fit.lasts;
    alone = λ T it. it.5 ∙ ap (over it.2) (fit.places_alone it.1 it.3).0 ∙ ap (λ c. over c old.tables) (fit.volume_alone it.2 it.4);
  }

  -- what `new` requires
  pub fit_placed : new.IsHonest → Fits end new.tables
  fit_placed h = subst (Fits end) (sym (fit.settled.unchanged h)) (fit.fits h)

  pub fit_keeps : IsTrue new.is_clean → Keeps end new.volume new.volume_leaves
  fit_keeps clean = record {
    long = subst₂ (λ n s. n ≤ length s) (sym (fit.end_is clean)) (sym fit.settled.volume) (omega arith);
    left = λ c it. ap (take end) (fit.volume_alone c it ∙ sym fit.settled.volume);
  }

-- ---- a volume over which tables are sound

module _ (volume : List ℕ) (places : Tables) (sound : IsSound (over volume places)) where
  body_at : (file place : Bytes) → get places.bodies file ≡ Some place → get (over volume places).bodies file ≡ Some (bytes_at volume place)
  body_at file place at = get-change_values (bytes_at volume) places.bodies file ∙ ap (option_map (bytes_at volume)) at

  known_at : (file place : Bytes) (found : Option FileRecord) → get places.bodies file ≡ Some place → get places.files file ≡ found
      → is_undeleted found ≡ true
      → (known : FileRecord) × (get places.files file ≡ Some known) × (sha256 (bytes_at volume place) ≡ known.digest)
  known_at file place None at e is = absurd (false≢true is)
  known_at file place (Some known) at e is = (known, e, (sound.bytes file (bytes_at volume place) known (body_at file place at) e).digest)

  no_others : HasOtherBytes volume places → ⊥
  no_others it =
      let undeleted : is_undeleted (get places.files it.0) ≡ true = sym (sound.bodies it.0) ∙ ap is_some (body_at it.0 it.1 it.2) in
      let known = known_at it.0 it.1 (get places.files it.0) it.2 refl undeleted in
      it.3 known.0 known.1 known.2

none_behind : (volume : List ℕ) (places : Tables) → Fits (length volume) places → EndsBehind (length volume) places → ⊥
none_behind volume places fits it = let within = (fits it.0 it.1 it.2).within in let less = it.3 in omega (arith, within, less)

pub own_volume : (volume : List ℕ) (places : Tables) → Fits (length volume) places → IsSound (over volume places)
    → (¬ EndsBehind (length volume) places) × (¬ HasOtherBytes volume places)
own_volume volume places fits sound = (none_behind volume places fits, no_others volume places sound)
