-- Work over a database and its volume leads from the pair that it found to the next one.
use Rattle.index.proofs.Words.{◌≡◌, ◌∙◌, ap, false, refl, subst, sym, ℕ, List, Result, Ok, Err, IfErr, IfOk, IsTrue, true, length}
use Rattle.index.proofs.Words.{∥∥₁_elim, ∥∥₁_map, HasCleanDisk, IsClean, IsClosed, WorkRun, IsLeftPair, opens_again, IsCopied, FileStore}
use Rattle.index.proofs.Words.{file_state, over_files, Held, Image, AreClean, Ghosts, Files, OpenFault, first_tables, Bytes, Tables}
use Rattle.index.proofs.Words.{has_any_of, tables_of, index_schema, BooksState, IsHonest, IsWorking, IsCommitted, AreNew, TakesPlaced, Fits}
use Rattle.index.proofs.Words.{over, Unclosed, End, CreatedRun, LeadsOn, HoldsPlaced, IsNextPair, IsNextOf, Pair, in_volume, HoldsOnly}
use Rattle.index.proofs.Words.{IsOpenedOn, IsWhyUnfound, placed_side, Task, DoesInPart, OpensAgain, Leaves}
use Rattle.sqlite.specs.Effect.{IsDatabase}
use Rattle.index_sql_schema.proofs.BearerLemmas.{one_bearer}
use Rattle.index_volume_books.specs.Through.{BothClean, both_tables, left_of}
use Rattle.index.specs.declared.pair.WithoutVolume.{WithoutVolume}
use Rattle.index.specs.InVolume.{AllClean, AreWhole, HasDatabaseOf}
use Rattle.index.specs.Pairs.{EndsOver, IsWithoutVolume, LeavesToNext, StaysBeside, TookAndRan}
use Rattle.index.proofs.RunLemmas.{clean_before, found_among, only_of, working_of}
use Rattle.index.proofs.DoneLemmas.{cut_to}
use Rattle.index.proofs.ThereLemmas.{no_proof, not_left, not_same, not_these}
use Rattle.index.proofs.VolumeLemmas.{image_to_next, left_to_next, no_places}

-- ---- the database that was found

module _ {D : Type 0} {g : Ghosts D} where
  pub database_of_opened : (start : Image) (conn : Held (FileStore D g)) → IsOpenedOn start conn → HasDatabaseOf start conn
  database_of_opened start conn opened working = let opening = opened working.clean in record {
    sound = (opening.0.1 opening.0.0.is_open).0;
    only = only_of start conn opening.0 opening.1;
  }

  -- a refused database is as it was
  pub database_of_refused : (start : Image) (last : Held (FileStore D g)) (why : OpenFault) (first : Held (FileStore D g))
      → IsOpenedOn start first → IsWhyUnfound over_files first last why → HasDatabaseOf start last
  database_of_refused start last why first opened unfound working =
      let stays = unfound.stays working.clean in
      let is_open = stays.was_open working.is_open in
      let was : IsWorking (file_state first) = record { clean = unfound.was_clean working.clean; is_open = is_open } in
      let same : (file_state last).now ≡ (file_state first).now = stays.now_is working.is_open in
      let found = database_of_opened start first opened was in
      record {
        sound = subst IsDatabase (sym same) found.sound;
        only = subst (HoldsOnly start) (sym same) found.only;
      }

  committed_of : (last : Held (FileStore D g)) → IsHonest 3 (file_state last)
      → IsCommitted 3 (file_state last) (tables_of over_files last)
  committed_of last honest = record {
    current = record { index = honest.index; version = honest.version; tables = refl };
    committed = honest.committed;
  }

-- ---- work that ended

module _ {D E : Type 0} {g : Ghosts D} (e : Ghosts E) (task : Task) (start : Pair) (conn : Held (FileStore D g))
    (books : BooksState (FileStore D g)) (has : HasDatabaseOf start.image conn) (takes : TakesPlaced over_files conn (Ok books)) where
  -- the pair held the tables that were taken
  held : {result : Result ℕ End} (disk : E) → e.seen disk ≡ start.volume → (it : TookAndRan e task books.conn disk result)
      → IsHonest 3 (file_state it.first) → IsTrue (e.is_clean it.first_disk)
      → HoldsPlaced start (both_tables (placed_side over_files e it.first it.first_disk))
  held disk same it honest clean =
      let before = it.taken.settled.honest honest in
      let working : IsWorking (file_state books.conn) = record { clean = before.clean; is_open = before.is_open } in
      record {
        db = (file_state conn).now;
        places = tables_of over_files books.conn;
        current = takes.found working;
        only = (has (takes.opened.was_working working)).only;
        within = record {
          fits = subst (λ (volume : List ℕ). Fits (length volume) (tables_of over_files books.conn)) same (it.taken.fits (honest, clean));
          whole = ap (λ (volume : List ℕ). over volume (tables_of over_files it.first)) (it.taken.settled.volume ∙ same)
              ∙ ap (over start.volume) (it.taken.settled.unchanged honest);
        };
      }

  ended : {result : Result ℕ End} (disk : E) → e.seen disk ≡ start.volume → (it : TookAndRan e task books.conn disk result)
      → (files : Files D) → IsCopied it.ran.last files → AllClean g e files it.ran.last_disk
      → (next : Pair) → IsNextPair g e files it.ran.last_disk next
      → LeadsOn in_volume (WorkRun true task it.ran.early) start next
  ended disk same it files copied clean next is =
      let honest = it.ran.honest (working_of it.ran.last files copied) in
      let was = it.ran.worked.honest (honest, clean.1) in
      record {
        before = both_tables (placed_side over_files e it.first it.first_disk);
        held = held disk same it was.0 was.1;
        work = record {
          one_bearer = one_bearer (file_state it.first).now was.0.index;
          done = it.ran.worked.done;
          ends = it.ran.worked.ends was (honest.clean, clean.1);
          is = (
            both_tables (placed_side over_files e it.ran.last it.ran.last_disk),
            left_to_next e it.ran.last files it.ran.last_disk (tables_of over_files it.ran.last) it.ran.left.end_at copied
                (committed_of it.ran.last honest) (it.ran.left.placed honest) (it.ran.left.kept clean.1) next is,
            it.ran.worked.answered (honest, clean.1),
          );
        };
      }

  closed_ended : {result : Result ℕ End} (disk : E) → e.seen disk ≡ start.volume → (it : TookAndRan e task books.conn disk result)
      → (closed : Result (Files D) (Unclosed D g)) → IfOk closed (λ files. AreClean g files.log files.db → IsCopied it.ran.last files)
      → IfOk closed (λ files. AllClean g e files it.ran.last_disk → (next : Pair) → IsNextPair g e files it.ran.last_disk next
      → LeadsOn in_volume (WorkRun true task it.ran.early) start next)
  closed_ended disk same it (Ok files) copied = λ clean. ended disk same it files (copied clean.0) clean
  closed_ended disk same it (Err unclosed) copied = tt

  -- ---- no work, for want of a volume

  -- a connection whose version was read works, as far as its disk is clean
  begun : HasCleanDisk (file_state books.conn) → IsWorking (file_state conn)
  begun clean = record { clean = takes.opened.was_clean clean; is_open = takes.was_open clean }

  placed_before : (P T : Tables) → AreWhole start.volume P T → Leaves 3 (file_state books.conn) P → HoldsPlaced start T
  placed_before P T within left =
      let working = begun left.0 in
      let honest = takes.opened.lasts working left.0 in
      let is : P ≡ tables_of over_files books.conn = takes.opened.alone working P left in
      record {
        db = (file_state conn).now;
        places = tables_of over_files books.conn;
        current = takes.found (record { clean = honest.clean; is_open = honest.is_open });
        only = (has working).only;
        within = subst (λ (places : Tables). AreWhole start.volume places T) is within;
      }

  unmoved : (WasThere : List ℕ → Type 0) (left : WithoutVolume D E g) → IsWithoutVolume e books.conn WasThere left
      → StaysBeside start left.conn
  unmoved WasThere left it clean next may = (
    λ some none. ∥∥₁_elim (opens_again left.conn.store again.0 again.1 next may) no_proof (λ db.
        other.1 (before other.0 (clean, (db.0, db.1, λ current. absurd (not_these 3 none db.0 (none.only.alone db.0 db.2) current))))),
    λ T holds. ∥∥₁_map (found_among left.conn.store again next may holds.db holds.only) (λ allowed.
        placed_before holds.places T holds.within
        (it.leaves holds.places (clean, (holds.db.trees, allowed, λ current. holds.current.tables)))),
  )
    where
      again : OpensAgain left.conn.store
      again = it.again clean

      before : (P : Tables) → Leaves 3 (file_state left.conn) P → P ≡ tables_of over_files books.conn
      before P leaves = let was = it.leaves P leaves in takes.opened.alone (begun was.0) P was

      other : (P : Tables) × (¬ (P ≡ tables_of over_files books.conn))
      other = not_same (tables_of over_files books.conn)

  -- ---- work that was cut short

  cut : {result : Result ℕ End} (disk : E) → e.seen disk ≡ start.volume → (it : TookAndRan e task books.conn disk result)
      → HasCleanDisk (file_state it.ran.last) → IsTrue (e.is_clean it.ran.last_disk)
      → (next : Pair) → IsLeftPair e it.ran.last it.ran.last_disk next
      → LeadsOn in_volume (WorkRun false task it.ran.early) start next
  cut disk same it clean whole next may = record {
    before = both_tables (placed_side over_files e it.first it.first_disk);
    held = held disk same it honest was.1;
    work = record {
      one_bearer = work.one_bearer;
      done = work.done;
      ends = work.ends;
      is = cut_to in_volume next _ work.done (left_of (placed_side over_files e it.ran.last it.ran.last_disk)) work.is
          (λ found holds. ∥∥₁_map (found_among it.ran.last.store again next.image may.image holds.db holds.only) (λ allowed. (
            whole,
            holds.places,
            next.volume,
            (clean, (holds.db.trees, allowed, λ current. holds.current.tables)),
            may.volume,
            holds.within.whole,
          )))
          (λ none. ∥∥₁_elim (opens_again it.ran.last.store again.0 again.1 next.image may.image) no_proof (λ db.
          other.1 next.volume (
            whole,
            other.0,
            next.volume,
            (clean, (db.0, db.1, λ current. absurd (not_these 3 none db.0 (none.only.alone db.0 db.2) current))),
            may.volume,
            refl,
          )));
    };
  }
    where
      was : BothClean (placed_side over_files e it.first it.first_disk)
      was = it.ran.worked.clean (clean, whole)

      honest : IsHonest 3 (file_state it.first)
      honest = let books_clean = it.taken.settled.clean was.0 in it.taken.lasts (takes.opened.lasts (begun books_clean) books_clean) was.0

      again : OpensAgain it.ran.last.store
      again = it.ran.again clean

      work : DoesInPart task it.ran.early (both_tables (placed_side over_files e it.first it.first_disk))
          (left_of (placed_side over_files e it.ran.last it.ran.last_disk))
      work = record {
        one_bearer = one_bearer (file_state it.first).now honest.index;
        done = it.ran.worked.done;
        ends = it.ran.worked.ends (honest, was.1) (clean, whole);
        is = it.ran.worked.went (honest, was.1) (clean, whole);
      }

      other : (T : Tables) × ((volume : List ℕ) → ¬ left_of (placed_side over_files e it.ran.last it.ran.last_disk) (over volume T))
          × (¬ left_of (placed_side over_files e it.ran.last it.ran.last_disk) T)
      other = not_left task it.ran.early _ _ work

  closed_cut : {result : Result ℕ End} (disk : E) → e.seen disk ≡ start.volume → (it : TookAndRan e task books.conn disk result)
      → (closed : Result (Files D) (Unclosed D g)) → IfErr closed (λ left. IsClosed it.ran.last left.store)
      → IfErr closed (λ left. IsClean (over_files.view left.store) → IsTrue (e.is_clean it.ran.last_disk)
      → (next : Pair) → IsLeftPair e it.ran.last it.ran.last_disk next → LeadsOn in_volume (WorkRun false task it.ran.early) start next)
  closed_cut disk same it (Ok files) kept = tt
  closed_cut disk same it (Err left) kept = λ clean. cut disk same it (clean_before it.ran.last left.store kept clean)

  pub leaves_to_next : (worked : Result (Result ℕ End) (WithoutVolume D E g)) (it : EndsOver e task books.conn start.volume worked)
      → LeavesToNext e task start books.conn worked it
  leaves_to_next (Ok result) it = record {
    ended = closed_ended it.0 it.1 it.2 it.2.ran.closed it.2.ran.copied;
    cut = closed_cut it.0 it.1 it.2 it.2.ran.closed it.2.ran.kept;
  }
  leaves_to_next (Err left) it = unmoved (λ next. next ≡ start.volume) left it

-- ---- a new index

module _ {D : Type 0} {g : Ghosts D} (user token : Bytes) (conn : Held (FileStore D g)) (books : BooksState (FileStore D g))
    (new : AreNew 3 over_files (first_tables user token) conn books)
    (free : has_any_of (file_state conn).now.schema index_schema.tables ≡ false)
    (works : IsWorking (file_state books.conn) → IsHonest 3 (file_state books.conn)) where
  created : (start : Pair) → HasDatabaseOf start.image conn → (files : Files D) → IsCopied books.conn files
      → (next : Pair) → IsNextOf g files next.image → LeadsOn in_volume (CreatedRun user token) start next
  created start has files copied next is =
      let working = working_of books.conn files copied in
      let found = has (new.opened.was_working working) in
      let honest = works working in (
        record { db = (file_state conn).now; sound = found.sound; only = found.only; free = free },
        record {
          db = (file_state books.conn).now;
          places = first_tables user token;
          current = record { index = honest.index; version = honest.version; tables = sym (new.tables working) };
          held = image_to_next books.conn files copied honest.committed next.image is;
          within = no_places next.volume user token;
        },
      )

  pub created_to_next : (closed : Result (Files D) (Unclosed D g))
      → IfOk closed (λ files. AreClean g files.log files.db → IsCopied books.conn files)
      → (start : Pair) → HasDatabaseOf start.image conn
      → IfOk closed (λ files. AreClean g files.log files.db → (next : Pair) → IsNextOf g files next.image
      → LeadsOn in_volume (CreatedRun user token) start next)
  created_to_next (Ok files) copied start has = λ clean. created start has files (copied clean)
  created_to_next (Err unclosed) copied start has = tt
