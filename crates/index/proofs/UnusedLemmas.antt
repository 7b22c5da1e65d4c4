-- A run that did nothing over a database of version 3 leads to what it found.
use Rattle.index.proofs.Words.{◌≡◌, ◌∙◌, ap, inl, inr, sym, ℕ, List, Option, Result, Ok, Err, Some, None, IsTrue, IfSome_then}
use Rattle.index.proofs.Words.{∥∥₁_map, cases_Bool, true≢false, FileStore, Database, file_state, over_files, Held, Image, HasCleanDisk}
use Rattle.index.proofs.Words.{Trees, Ghosts, Tables, IsRaised, IsCreated, AreCurrent, IsCurrent, Unopened, End, Task, Left}
use Rattle.index.proofs.Words.{LeadsOn, UnusedRun, HoldsOnly, IsOpenedOn, IsUnfound, OpensAgain, UnusedLeaves, HoldsPlaced, Pair}
use Rattle.index.proofs.Words.{in_volume, is_fault_end, placed_side}
use Rattle.index_tables.specs.Placed.{IsNotPlaced}
use Rattle.index_volume_books.specs.Taken.{AreSettled}
use Rattle.index.specs.declared.database.Left.TheVariants as unused
use Rattle.index.specs.declared.pair.WithoutVolume.{WithoutVolume}
use Rattle.index.specs.InVolume.{IsNextVolume, pair_of}
use Rattle.index.specs.Openings.{Refused as RefusedAs}
use Rattle.index.specs.Pairs.{EndsOver, EndsOverDisk, IsWithoutVolume, StaysBeside, StaysIfUnused, UnusedStaysBeside}
use Rattle.index.proofs.ChainLemmas.{keeps_refused, only_as, shut_leads}
use Rattle.index.proofs.RunLemmas.{found_among, only_of}

-- an index that is found in a database which was there was there
pub placed_at : (start : Pair) (next : Image) (T : Tables) → (holds : HoldsPlaced (pair_of next start.volume) T)
    → HoldsOnly start.image holds.db → HoldsPlaced start T
placed_at start next T holds only = record {
  db = holds.db;
  places = holds.places;
  current = holds.current;
  only = only;
  within = holds.within;
}

not_both : (db : Database) (places : Tables) → IsCurrent 3 db places → AreCurrent 2 db.trees → ⊥
not_both db places current other = let both : ◌≡◌ {A = Option ℕ} (Some 2) (Some 3) = sym other.version ∙ current.version in cc both

-- ---- files on which nothing was done

module _ {D : Type 0} {g : Ghosts D} where
  -- a refused database, of which a crash leaves it as it was or an index of version 2
  pub refused_keeps : (Made : Database → Trees → Type 0) → ((was : Database) (found : Trees) → Made was found → AreCurrent 2 found)
      → (start : Pair) (conn : Held (FileStore D g)) → (HasCleanDisk (file_state conn) → OpensAgain conn.store)
      → (HasCleanDisk (file_state conn) → RefusedAs Made start.image (file_state conn)) → StaysBeside start conn
  refused_keeps Made current start conn again refused clean next may = (
    keeps_refused 2 Made start.image conn current next (again clean) may (refused clean),
    λ T holds. ∥∥₁_map (found_among conn.store (again clean) next may holds.db holds.only) (λ allowed.
        let it = refused clean in
        elim (it.left holds.db.trees allowed) [
          | inl same ↦ placed_at start next T holds (only_as it.only same)
          | inr made ↦ absurd (not_both holds.db holds.places holds.current (current it.db holds.db.trees made.1))
        ]),
  )

  pub refused_stays : (start : Pair) (conn : Held (FileStore D g)) → (HasCleanDisk (file_state conn) → OpensAgain conn.store)
      → IsUnfound start.image (file_state conn) → StaysBeside start conn
  refused_stays = refused_keeps IsRaised (λ was found made. made.1)

  pub shut_stays : (start : Pair) (left : Left D g) → UnusedLeaves IsUnfound start.image left → UnusedStaysBeside start left
  shut_stays start (unused.Shut left) leaves =
      shut_leads (λ next. LeadsOn in_volume UnusedRun start (pair_of next start.volume)) start.image left
      (λ next keeps finds. (keeps, λ T holds. ∥∥₁_map (finds holds.db holds.only) (placed_at start next T holds))) leaves
  shut_stays start (unused.Refused left) leaves = refused_stays start left.conn leaves.1 leaves.0

  pub unused_stays : StaysIfUnused g
  unused_stays start left (inl unfound) = shut_stays start left unfound
  unused_stays start (unused.Shut left) (inr unmade) = shut_stays start (unused.Shut left) unmade.1
  unused_stays start (unused.Refused left) (inr unmade) =
      refused_keeps (IsCreated 2 unmade.0) (λ was found made. made.1) start left.conn unmade.1.1 unmade.1.0

  -- ---- a connection on which nothing was done

  -- a crash leaves of a connection what is committed
  abbrev pub LeavesCommitted : Held (FileStore D g) → Type 0
  LeavesCommitted conn =
      (db : Trees) → IsTrue (file_state conn).is_open → (file_state conn).may_leave db → db ≡ (file_state conn).committed.trees

  -- so, if it was opened on files, their database
  pub unfound_of_opened : (start : Image) (conn : Held (FileStore D g)) → IsOpenedOn start conn → LeavesCommitted conn
      → IsUnfound start (file_state conn)
  unfound_of_opened start conn opened settled clean =
      let opening = opened clean in
      record {
        db = (file_state conn).now;
        sound = (opening.0.1 opening.0.0.is_open).0;
        only = only_of start conn opening.0 opening.1;
        left = λ found may. inl (settled found opening.0.0.is_open may ∙ ap (λ (d : Database). d.trees) (sym opening.0.0.clean));
      }

  -- a look at a refused database leaves nothing new
  pub still_unfound : (start : Image) (conn : Held (FileStore D g)) (refused : Unopened (FileStore D g)) → IsUnfound start (file_state conn)
      → IsNotPlaced over_files conn refused → IsUnfound start (file_state refused.conn)
  still_unfound start conn refused unfound looked clean =
      let it = unfound (looked.left.was_clean clean) in
      record {
        db = it.db;
        sound = it.sound;
        only = it.only;
        left = λ found may. elim (it.left found (looked.nothing_new clean found may)) [
          | inl same ↦ inl same
          | inr made ↦ elim (cases_Bool (file_state refused.conn).is_open) [
            | inl open_still ↦ absurd (true≢false (sym ((looked.left.stays clean).was_open open_still) ∙ made.0))
            | inr shut ↦ inr (shut, made.1)
          ]
        ];
      }

-- ---- books whose volume was not taken

module _ {D E : Type 0} {g : Ghosts D} (e : Ghosts E) (books : Held (FileStore D g)) where
  pub unopened : (WasThere : List ℕ → Type 0) (why : End) → IsTrue (is_fault_end why)
      → (HasCleanDisk (file_state books) → OpensAgain books.store)
      → IsWithoutVolume e books WasThere (record { why = why; conn = books; disk = None })
  unopened WasThere why fault again = record { fault = fault; leaves = λ T it. it; again = again; volume = tt }

  pub untaken : (last : Held (FileStore D g)) (disk last_disk : E) (why : End) → IsTrue (is_fault_end why)
      → AreSettled (placed_side over_files e books disk) (placed_side over_files e last last_disk)
      → (HasCleanDisk (file_state last) → OpensAgain last.store)
      → IsWithoutVolume e books (IsNextVolume e disk) (record { why = why; conn = last; disk = Some last_disk })
  untaken last disk last_disk why fault settled again = record {
    fault = fault;
    leaves = settled.books_crash;
    again = again;
    volume = λ next is. elim is [ inl now ↦ inl (now ∙ settled.volume) | inr later ↦ inr (settled.volume_crash next later) ];
  }

-- a volume that was opened as it was
pub over_volume : {D E : Type 0} {g : Ghosts D} (e : Ghosts E) (task : Task) (books : Held (FileStore D g)) (volume : List ℕ) (disk : E)
    → e.seen disk ≡ volume → ((next : List ℕ) → e.may_leave disk next → next ≡ volume)
    → (worked : Result (Result ℕ End) (WithoutVolume D E g)) → EndsOverDisk e task books disk worked → EndsOver e task books volume worked
over_volume e task books volume disk same alone (Ok result) took = (disk, same, took)
over_volume e task books volume disk same alone (Err left) it = record {
  fault = it.fault;
  leaves = it.leaves;
  again = it.again;
  volume = IfSome_then left.disk it.volume (λ last was next is.
      elim (was next is) [ inl now ↦ now ∙ same | inr later ↦ alone next later ]);
}
