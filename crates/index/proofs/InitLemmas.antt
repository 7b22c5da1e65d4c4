-- An init with a volume leads from the files that it found to the next ones.
use Rattle.index.proofs.Words.{◌≡◌, ◌∙◌, ap, inl, inr, false, refl, subst, sym, ℕ, List, Result, Ok, Err, Some, IfErr}
use Rattle.index.proofs.Words.{true≢false, ∥∥₁_map, FileStore, Database, file_state, over_files, Held, Image, HasCleanDisk, Trees}
use Rattle.index.proofs.Words.{Ghosts, Files, Tables, Bytes, Unopened, Unclosed, first_tables, IsCreated, HoldsNone, HoldsPlaced, Pair}
use Rattle.index.proofs.Words.{in_volume, LeadsOn, InitRun, IsOpenedOn, OpensAgain, BooksState, AreNew, IsWorking}
use Rattle.index.proofs.Words.{IsClean, IsClosed, IsOpened, FindsIn, MayLeave, OpenFault, tables_of, has_any_of, index_schema, over}
use Rattle.index.proofs.Words.{End, Open, BadFirstUser}
use Rattle.index.proofs.Words.{IsBadFirstUser, is_fault_end, closing_of, IsErrAnd, IsToldOf, Leftover, CleanShutLeaves, Shut, cases_Bool}
use Rattle.std.specs.Prelude.{IsOk}
use Rattle.index_tables.specs.Opened.{IsUnopened}
use Rattle.index.specs.declared.database.Left.TheVariants.{Refused}
use Rattle.index.specs.Chains.{UnusedLeavesFiles}
use Rattle.index.specs.InVolume.{AreWhole, pair_of}
use Rattle.index.specs.NewPairs.{IsToldOfMade, MadePlaced, MakesBeside, UnmadeLeadsOn}
use Rattle.index.specs.Runs.{CrashLeavesDatabase}
use Rattle.index.proofs.ChainLemmas.{keeps_refused, only_as, shut_leads}
use Rattle.index.proofs.PairLemmas.{closed_fault, refused_for_user}
use Rattle.index.proofs.RunLemmas.{clean_before, found_among, only_of, refused_by}
use Rattle.index.proofs.ThereLemmas.{not_current}
use Rattle.index.proofs.UnusedLemmas.{LeavesCommitted, placed_at}
use Rattle.index.proofs.VolumeLemmas.{no_places}

-- places that are those of a new index are its tables, with any volume
no_bytes : (volume : List ℕ) (user token : Bytes) (places T : Tables) → places ≡ first_tables user token → T ≡ over volume places
    → T ≡ first_tables user token
no_bytes volume user token places T same whole = whole ∙ ap (over volume) same ∙ sym (no_places volume user token).whole

abbrev Making : (D : Type 0) → Ghosts D → Type 0
Making D g = Result (Result (Result (Files D) (Unclosed D g)) (Unopened (FileStore D g))) (End × Held (FileStore D g))

module _ {D : Type 0} {g : Ghosts D} where
  -- a database without any object holds nothing of an index
  abbrev none_of : (start : Image) (conn : Held (FileStore D g)) → IsOpenedOn start conn → HasCleanDisk (file_state conn)
      → has_any_of (file_state conn).now.schema index_schema.tables ≡ false → HoldsNone start
  none_of start conn opened clean free = let opening = opened clean in record {
    db = (file_state conn).now;
    sound = (opening.0.1 opening.0.0.is_open).0;
    only = only_of start conn opening.0 opening.1;
    free = free;
  }

  -- ---- an index that was not made

  -- a connection on which nothing was done leaves its database
  pub stays_database : (Made : Database → Trees → Type 0) (conn : Held (FileStore D g)) → LeavesCommitted conn
      → HasCleanDisk (file_state conn) → CrashLeavesDatabase Made (file_state conn) (file_state conn)
  stays_database Made conn settled clean = record {
    was_clean = clean;
    left = λ is_open same db may. inl (settled db is_open may ∙ ap (λ (d : Database). d.trees) (sym same));
  }

  -- and so does one on which no index was made, or it leaves the whole index
  pub unmade_database : (Reason : Held (FileStore D g) → Held (FileStore D g) → OpenFault → Type 0) (T : Tables)
      (first : Held (FileStore D g)) (refused : Unopened (FileStore D g))
      → LeavesCommitted first → LeavesCommitted refused.conn → IsUnopened over_files (IsCreated 3 T) Reason first refused
      → HasCleanDisk (file_state refused.conn) → CrashLeavesDatabase (IsCreated 3 T) (file_state first) (file_state refused.conn)
  unmade_database Reason T first refused settled then_settled it clean =
      let was_clean = it.was_clean clean in
      record {
        was_clean = was_clean;
        left = λ is_open same db may. elim (cases_Bool (file_state refused.conn).is_open) [
          | inl still ↦ inl (then_settled db still may
              ∙ ap (λ (d : Database). d.trees) ((it.stays clean).committed_is still ∙ sym same))
          | inr shut ↦ elim (it.crash (record { clean = was_clean; is_open = is_open }) clean db may) [
            | inl left ↦ inl (settled db is_open left ∙ ap (λ (d : Database). d.trees) (sym same))
            | inr made ↦ inr (shut, made)
          ]
        ];
      }

  module _ (user token : Bytes) where
    -- the next run finds what was there, or the new index
    pub unmade_to_next : (first last : Held (FileStore D g)) → (HasCleanDisk (file_state last) → OpensAgain last.store)
        → (HasCleanDisk (file_state last)
        → CrashLeavesDatabase (IsCreated 3 (first_tables user token)) (file_state first) (file_state last))
        → UnmadeLeadsOn user token first last
    unmade_to_next first last again leaves start opened clean image may volume stays = (
      keeps_refused 3 Made start.image last (λ was found made. made.1) image (again clean) may
          (refused_by Made start.image first last opening.0 opening.1 (leaves clean)),
      λ T holds. ∥∥₁_map (found_among last.store (again clean) image may holds.db holds.only) (λ allowed.
          elim ((leaves clean).left opening.0.0.is_open opening.0.0.clean holds.db.trees allowed) [
            | inl same ↦ inl (there T holds same)
            | inr made ↦ inr (
              none_of start.image first opened (leaves clean).was_clean
                  (ap (λ schema. has_any_of schema index_schema.tables) made.1.0),
              no_bytes volume user token holds.places T (holds.current.tables ∙ made.1.2) holds.within.whole,
            )
          ]),
    )
      where
        Made : Database → Trees → Type 0
        Made = IsCreated 3 (first_tables user token)

        opening : IsOpened first × FindsIn start.image (file_state first)
        opening = opened (leaves clean).was_clean

        -- a database with an index is not blank, so its volume is as it was
        there : (T : Tables) → (holds : HoldsPlaced (pair_of image volume) T) → holds.db.trees ≡ (file_state first).now.trees
            → HoldsPlaced start T
        there T holds same = record {
          db = holds.db;
          places = holds.places;
          current = holds.current;
          only = only_as (only_of start.image first opening.0 opening.1) same;
          within = subst (λ (v : List ℕ). AreWhole v holds.places T) (stays (λ blank. not_current 3
              (none_of start.image first opened (leaves clean).was_clean (ap (λ schema. has_any_of schema index_schema.tables) blank))
              holds.db holds.places (sym same) holds.current)) holds.within;
        }

    -- files that were not opened as a database are as they were
    pub shut_to_next : (start : Image) (left : Leftover D g) → CleanShutLeaves start left → (volume : List ℕ)
        → UnusedLeavesFiles (Shut left) (λ image. LeadsOn in_volume (InitRun user token) (pair_of start volume) (pair_of image volume))
    shut_to_next start left leaves volume =
        shut_leads (λ image. LeadsOn in_volume (InitRun user token) (pair_of start volume) (pair_of image volume)) start left
        (λ image keeps finds. (
          keeps,
          λ T holds. ∥∥₁_map (finds holds.db holds.only) (λ only. inl (placed_at (pair_of start volume) image T holds only)),
        )) leaves

    -- ---- an index that was made, whose files could not be closed

    module _ (conn : Held (FileStore D g)) (books : BooksState (FileStore D g))
        (new : AreNew 3 over_files (first_tables user token) conn books)
        (free : has_any_of (file_state conn).now.schema index_schema.tables ≡ false)
        (again : HasCleanDisk (file_state books.conn) → OpensAgain books.conn.store) where
      unclosed : (start : Pair) → IsOpenedOn start.image conn → HasCleanDisk (file_state books.conn) → (next : Pair)
          → MayLeave books.conn next.image → LeadsOn in_volume (InitRun user token) start next
      unclosed start opened clean next may = (
        λ some. absurd (some none),
        λ T holds. ∥∥₁_map (found_among books.conn.store (again clean) next.image may holds.db holds.only) (λ allowed. inr (
          none,
          no_bytes next.volume user token holds.places T
              (new.opened.alone working holds.places (clean, (holds.db.trees, allowed, λ current. holds.current.tables)) ∙ tables)
              holds.within.whole,
        )),
      )
        where
          was_clean : HasCleanDisk (file_state conn)
          was_clean = new.opened.was_clean clean

          none : HoldsNone start.image
          none = none_of start.image conn opened was_clean free

          working : IsWorking (file_state conn)
          working = record { clean = was_clean; is_open = (opened was_clean).0.0.is_open }

          tables : tables_of over_files books.conn ≡ first_tables user token
          tables = let honest = new.opened.lasts working clean in new.tables (record { clean = honest.clean; is_open = honest.is_open })

      pub unclosed_to_next : (closed : Result (Files D) (Unclosed D g)) → IfErr closed (λ it. IsClosed books.conn it.store)
          → (start : Pair) → IsOpenedOn start.image conn
          → IfErr closed (λ it. IsClean (over_files.view it.store) → (next : Pair) → MayLeave books.conn next.image
          → LeadsOn in_volume (InitRun user token) start next)
      unclosed_to_next (Ok files) kept start opened = tt
      unclosed_to_next (Err it) kept start opened = λ clean. unclosed start opened (clean_before books.conn it.store kept clean)

    -- ---- what is told of an init

    -- it ends for a first user only if that is not valid
    pub bad_user_told : (conn : Held (FileStore D g)) (made : Making D g) (result : Result (Unit {0}) End)
        → MakesBeside user token conn made → IsToldOfMade made result → result ≡ Err (Open BadFirstUser) → IsBadFirstUser user token
    bad_user_told conn (Ok (Ok closed)) result it told is = absurd (closed_fault closed it.fault (sym told ∙ is))
    bad_user_told conn (Ok (Err left)) result it told is =
        it.bad_first_user (refused_for_user left (Open BadFirstUser)
        (subst (λ r. IsErrAnd r (IsToldOf (Open left.why) (Some (Refused left)))) is told) refl)
    bad_user_told conn (Err left) result it told is =
        let both : Err left.0 ≡ Err (Open BadFirstUser) = sym told ∙ is in
        let same : left.0 ≡ Open BadFirstUser = cc in
        absurd (true≢false (sym it.fault ∙ ap is_fault_end same))

    -- and well only if the index was made
    pub made_told : (conn : Held (FileStore D g)) (made : Making D g) (result : Result (Unit {0}) End) → MakesBeside user token conn made
        → IsToldOfMade made result → IsOk result
        → (closed : Result (Files D) (Unclosed D g)) × MadePlaced user token conn closed × (result ≡ closing_of closed)
    made_told conn (Ok (Ok closed)) result it told ok = (closed, it, told)
    made_told conn (Ok (Err left)) (Ok done) it told ok = absurd told
    made_told conn (Ok (Err left)) (Err end) it told ok = absurd (true≢false (sym ok))
    made_told conn (Err left) result it told ok = absurd (true≢false (sym (subst IsOk told ok)))
