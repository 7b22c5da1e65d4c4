-- From the states of a connection to the files that it was opened on and closed to.
use Rattle.index.proofs.Words.{◌≡◌, ◌⊎◌, ◌∙◌, Bool, List, [], ◌∷◌, false, sym, ap, subst, subst₂, if◌then◌else◌, inl, inr, ℕ, Some, Result}
use Rattle.index.proofs.Words.{Ok, Err, IfErr, IfOk, arith, cases_Bool, ∥∥₁_elim, ∥∥₁_map, HoldsAlone, IsCopied, FileStore, Leftover}
use Rattle.index.proofs.Words.{Database, AreFoundIn, HoldsDatabase, IsClosed, IsNothing, IsOpened, LeavesFiles, file_state, image_of}
use Rattle.index.proofs.Words.{over_files, Held, opens_again, Image, FindsIn, HasCleanDisk, Trees, Ghosts, Files, Event, replay, Trees-set}
use Rattle.index.proofs.Words.{IsClean, has_any_of, BadFirstUser, OutOfMemory, IsBadFirstUser, Bytes, Tables, tables_in, index_schema}
use Rattle.index.proofs.Words.{IsCommitted, IsCurrent, IsFound, AreCurrent, IsWorking, MayLeave, Unopened, AreClean, Unclosed, HoldsOnly}
use Rattle.index.proofs.Words.{IsCleanClosed, OpensAgain, FindsOnly, CrashLeavesOnlyTables, Created, CreatedInLog, Holds, HoldsCurrent}
use Rattle.index.proofs.Words.{HoldsNone, Interrupted, IsMadeNew, Ran, in_files, DoesInPart, End, Task}
use Rattle.std.proofs.Common.{◌↔◌}
use Rattle.sqlite.specs.declared.file.Leftover.TheVariants as leftover
use Rattle.sqlite.specs.Schema.{Schema}
use Rattle.sqlite.specs.WalFiles.{outcomes}
use Rattle.sqlite_disk.specs.Events.{settled}
use Rattle.sqlite_disk.specs.History.{MayLeave as MayLeaveFile}
use Rattle.sqlite_pool.specs.Stored.{StandsAs}
use Rattle.sqlite_store.specs.FileStore as store
use Rattle.sqlite_store.specs.Unopened.{state_of}
use Rattle.index_rules.specs.declared.open.OpenFault.TheVariants.{NotEmpty}
use Rattle.index_sql_schema.specs.Index.{version_in}
use Rattle.index_tables.specs.Opened.{IsRefusedAs, IsTaken}
use Rattle.index.proofs.ThereLemmas.{not_left, not_same, there_by}
use Rattle.index.specs.Openings.{Refused, ShutLeaves}
use Rattle.index.specs.Runs.{Began, CrashLeavesDatabase, CrashMayLeave, HoldsAfterCrash}
use Rattle.index.specs.Runs.{Worked}

-- an index of today is found as it is, and never as one of version 1
same_found : (db other : Database) (T found : Tables) → IsCurrent 2 db T → IsFound other found → other.trees ≡ db.trees → found ≡ T
same_found db other T found current (inl it) same = it.tables ∙ (ap tables_in same ∙ sym current.tables)
same_found db other T found current (inr it) same =
    absurd (let told : Some 1 ≡ Some 2 = sym it.version ∙ (ap version_in same ∙ current.version) in cc)

-- an index of today is found with its tables
pub tables_of_found : (db : Database) (found : Tables) → IsFound db found → AreCurrent 2 db.trees → found ≡ tables_in db.trees
tables_of_found db found (inl it) current = it.tables
tables_of_found db found (inr it) current = absurd (let told : Some 1 ≡ Some 2 = sym it.version ∙ current.version in cc)

keeps_of : (image : Image) (db : Database) (T : Tables) → IsCurrent 2 db T → HoldsAlone image db.trees → HoldsCurrent image T
keeps_of image db T current held = record {
  db = db;
  current = current;
  held = held;
  next = λ found holds. same_found db holds.db T found current holds.found (∥∥₁_elim held.both (Trees-set _ _) (holds.only.alone _));
}

-- if a new index was made, no table had the name of one of its own
pub free_of : {S A : Type 0} (user token : Bytes) (schema : Schema) (result : Result A (Unopened S))
    → (IsRefusedAs BadFirstUser result ↔ IsBadFirstUser user token)
    → (IsTaken user token schema → IsRefusedAs NotEmpty result ⊎ IsRefusedAs OutOfMemory result)
    → IfOk result (λ _. has_any_of schema index_schema.tables ≡ false)
free_of user token schema (Ok made) bad taken = elim (cases_Bool (has_any_of schema index_schema.tables)) [
  | inl any ↦ absurd (elim (taken ((λ is. bad.1 is), any)) [ inl none ↦ none | inr none ↦ none ])
  | inr free ↦ free
]
free_of user token schema (Err refused) bad taken = tt

-- what a crash leaves of the log or the database file after these calls, if these are what the two held
abbrev LeavesFile : Bool → List ℕ → List ℕ → Bool → List Event → List ℕ → Type 0
LeavesFile mixes log db is_log history bytes =
    let m = replay (if is_log then log else db) history in MayLeaveFile mixes m.seen m.synced m.steps bytes

-- if it was settled, and nothing has happened since, that is what it held
pub settled_leaves : (mixes : Bool) (log db : List ℕ) (is_log which : Bool) (key : ℕ) (history : List Event) (bytes : List ℕ)
    → is_log ≡ which → history ≡ settled key ∷ []
    → LeavesFile mixes log db is_log history bytes → bytes ≡ (if which then log else db)
settled_leaves mixes log db is_log which key history bytes is fresh may =
    elim (subst₂ (λ (b : Bool) (h : List Event). LeavesFile mixes log db b h bytes) is fresh may) [ inl same ↦ same | inr same ↦ same ]

module _ {D : Type 0} {g : Ghosts D} where
  -- a connection whose files were copied on a clean disk was working
  pub working_of : (last : Held (FileStore D g)) (files : Files D) → IsCopied last files → IsWorking (file_state last)
  working_of last files copied = record { clean = copied.was_clean; is_open = copied.was_open }

  pub leaves_of : (last : Held (FileStore D g)) (files : Files D) (T : Tables) → IsCopied last files → IsCommitted 2 (file_state last) T
      → HoldsAfterCrash g files T
  leaves_of last files T copied committed =
      let db = (file_state last).now in
      let same : (file_state last).committed ≡ db = sym committed.committed in
      let held = λ (image : Image) (alone : HoldsAlone image (file_state last).committed.trees).
      keeps_of image db T committed.current (subst (λ (d : Database). HoldsAlone image d.trees) same alone) in
      record { seen = held _ copied.seen; crash = λ image may. held image (copied.left image may) }

  pub only_of : (start : Image) (first : Held (FileStore D g)) → IsOpened first → FindsIn start (file_state first)
      → HoldsOnly start (file_state first).now
  only_of start first opened finds = record {
    read = subst (λ (d : Database). AreFoundIn start d.trees) (sym opened.0.clean) finds.reads;
    alone = λ other holds. ap (λ (d : Database). d.trees) opened.0.clean ∙ finds.holds other holds;
  }

  holds_of : (start : Image) (first : Held (FileStore D g)) (T : Tables) → IsOpened first → FindsIn start (file_state first)
      → IsFound (file_state first).now T → Holds start T
  holds_of start first T opened finds found = record { db = (file_state first).now; found = found; only = only_of start first opened finds }

  -- work between an opening and a close
  pub ran_by : (Does : Tables → Tables → Type 0) (start : Image) (first last : Held (FileStore D g)) (files : Files D) → IsOpened first
      → FindsIn start (file_state first)
      → Worked Does (file_state first).now (file_state last) → IsCopied last files → Ran g Does start files
  ran_by Does start first last files opened finds worked copied = record {
    before = worked.before;
    after = worked.after;
    held = holds_of start first worked.before opened finds worked.found;
    did = worked.did;
    left = leaves_of last files worked.after copied worked.committed;
  }

  -- a database that is found in what a crash leaves is one that the store allows
  pub found_among : (last : FileStore D g) → OpensAgain last → (next : Image) → (store.state last).may_leave next → (db : Database)
      → HoldsOnly next db
      → ∥ over_files.recovers last db.trees ∥₁
  found_among last again next may db only =
      ∥∥₁_map (opens_again last again.0 again.1 next may) (λ it. subst (over_files.recovers last) (sym (only.alone it.0 it.2)) it.1)

  found_next : (Are : Tables → Type 0) (last : Held (FileStore D g)) → OpensAgain last.store
      → CrashLeavesOnlyTables (file_state last).may_leave Are
      → (image : Image) → MayLeave last image → FindsOnly in_files image Are
  found_next Are last again left image may found holds =
      ∥∥₁_map (found_among last.store again image may holds.db holds.only)
      (λ allowed. left holds.db.trees allowed found (tables_of_found holds.db found holds.found))

  -- work between an opening and a close that failed
  pub interrupted_by : (task : Task) (told : Result ℕ End) (start : Image) (first last : Held (FileStore D g)) (store : FileStore D g)
      → IsOpened first → FindsIn start (file_state first)
      → Began (DoesInPart task told) (file_state first).now (file_state last).may_leave
      → IsClosed last store → OpensAgain last.store → Interrupted (DoesInPart task told) start store
  interrupted_by task told start first last store opened finds began closed again =
      let Left = CrashMayLeave (file_state last).may_leave in
      let left : CrashLeavesOnlyTables (file_state last).may_leave Left = λ db may T is. (db, may, is) in
      let other = not_left task told began.before Left began.did in
      record {
        before = began.before;
        held = holds_of start first began.before opened finds began.found;
        last = last;
        closed = closed;
        did = began.did;
        left = λ db may. left db (closed.quiet.outcomes db may);
        next = found_next Left last again left;
        there = there_by Left last.store again left (other.0, other.2);
      }

  none_of : (start : Image) (first : Held (FileStore D g)) → IsOpened first → FindsIn start (file_state first)
      → has_any_of (file_state first).now.schema index_schema.tables ≡ false → HoldsNone start
  none_of start first opened finds free = record {
    db = (file_state first).now;
    sound = (opened.1 opened.0.is_open).0;
    only = only_of start first opened finds;
    free = free;
  }

  -- a new index between an opening and a close
  pub created_by : (T : Tables) (start : Image) (first last : Held (FileStore D g)) (files : Files D) → IsOpened first
      → FindsIn start (file_state first)
      → IsMadeNew T (file_state first) (file_state last) → IsCopied last files → Created g T start files
  created_by T start first last files opened finds made copied = record {
    held = none_of start first opened finds made.free;
    left = leaves_of last files T copied (made.committed (working_of last files copied));
  }

  -- and between one and a close that failed
  pub created_in_log_by : (T : Tables) (start : Image) (first last : Held (FileStore D g)) (store : FileStore D g) → IsOpened first
      → FindsIn start (file_state first)
      → IsMadeNew T (file_state first) (file_state last) → HasCleanDisk (file_state last) → IsClosed last store → OpensAgain last.store
      → CreatedInLog T start store
  created_in_log_by T start first last store opened finds made clean closed again =
      let left = made.left clean opened.0.is_open in
      record {
        held = none_of start first opened finds made.free;
        left = λ db may. left db (closed.quiet.outcomes db may);
        last = last;
        closed = closed;
        next = found_next (λ found. found ≡ T) last again left;
        there = there_by (λ found. found ≡ T) last.store again left (not_same T);
      }

  pub refused_by : (Made : Database → Trees → Type 0) (start : Image) (first last : Held (FileStore D g)) → IsOpened first
      → FindsIn start (file_state first)
      → CrashLeavesDatabase Made (file_state first) (file_state last) → Refused Made start (file_state last)
  refused_by Made start first last opened finds leaves = record {
    db = (file_state first).now;
    sound = (opened.1 opened.0.is_open).0;
    only = only_of start first opened finds;
    left = leaves.left opened.0.is_open opened.0.clean;
  }

  -- a disk that is clean as a close fails was so before it
  pub clean_before : (last : Held (FileStore D g)) (store : FileStore D g) → IsClosed last store → IsClean (over_files.view store)
      → HasCleanDisk (file_state last)
  clean_before last store closed clean = omega (arith, closed.quiet.clean, clean)

  -- and so it was before an index was made
  pub was_clean_by : {T : Tables} (first last : Held (FileStore D g)) (closed : Result (Files D) (Unclosed D g))
      → IsMadeNew T (file_state first) (file_state last)
      → IfOk closed (λ files. AreClean g files.log files.db → IsCopied last files) → IfErr closed (λ it. IsClosed last it.store)
      → IsCleanClosed closed → HasCleanDisk (file_state first)
  was_clean_by first last (Ok files) made copied kept clean = made.was_clean (copied clean).was_clean
  was_clean_by first last (Err it) made copied kept clean = made.was_clean (clean_before last it.store kept clean)

  -- an opening that fails, over files that nothing had happened to
  pub shut_by : (start : Image) (files : Files D) (left : Leftover D g) → image_of g files ≡ start
      → ((image : Image) → outcomes g files.log files.db image → image ≡ start)
      → LeavesFiles files left → ShutLeaves start left
  shut_by start files (leftover.Files now) same still leaves = λ image may. still image (leaves image may)
  shut_by start files (leftover.Unopened now) same still leaves = λ image may. elim leaves [
    | inl new ↦ elim (new.1 image may) [ inl old ↦ inl (still image old) | inr begun ↦ inr (inl (subst IsNothing same new.0, begun)) ]
    | inr there ↦
        let kept = there.4 image may in
        let something : ¬ IsNothing start = λ nothing. there.0 (subst IsNothing (sym same) nothing) in
        elim kept.same [
          | inl old ↦ inl (still image old)
          | inr stands ↦ inr (inr (
            something,
            (λ nothing. kept.something (λ old. something (subst IsNothing (still image old) nothing)) nothing),
            subst (λ i. StandsAs (state_of now).page_size i image) same stands,
          ))
        ]
  ]
  shut_by start files (leftover.Store now) same still leaves = λ found may.
      let is = leaves found may in
      (subst (λ i. AreFoundIn i found) same is.0, λ db holds. is.1 db (subst (λ i. HoldsDatabase i db) (sym same) holds))
