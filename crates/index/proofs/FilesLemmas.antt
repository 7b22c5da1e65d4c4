-- The opening of two files as a database, once their lengths were asked for.
use Rattle.index.proofs.Words.{◌≡◌, ◌∙◌, ℕ, ◌+◌, ◌&&◌, ◌==◌, Bool, true, false, List, length, Option, None, Some, IsTrue, refl, sym, ap}
use Rattle.index.proofs.Words.{ap₂, subst, inl, inr, true≢false, cases_Bool, Error, FileStore, Leftover, FailsToOpenFiles, IsOpened}
use Rattle.index.proofs.Words.{LeavesFiles, file_state, image_of, Held, Image, FindsIn, HasCleanDisk, Ghosts, Files, both_counts, Cause}
use Rattle.index.proofs.Words.{End, cause_of_lengths, end_of_error, AreAsFound, CleanShutLeaves, IsOpenedOn, cause_of_files}
use Rattle.std.proofs.lemmas.Bool.{eqb-true}
use Rattle.sqlite.specs.Files.{Finds, IsBlankAs, IsCleanLeft}
use Rattle.sqlite_store.specs.FileStore.{view}
use Rattle.index.specs.declared.cause.Cause.TheVariants as cause
use Rattle.index.specs.Openings.{HasSumsAs, IsWhyShut}
use Rattle.index.proofs.FreshLemmas.{image}
use Rattle.index.proofs.OpeningLemmas.{no_database}
use Rattle.index.proofs.RunLemmas.{shut_by}

first_true : (a b : Bool) → IsTrue (a && b) → IsTrue a
first_true true b is = refl
first_true false b is = absurd (true≢false (sym is))

second_true : (a b : Bool) → IsTrue (a && b) → IsTrue b
second_true true b is = is
second_true false b is = absurd (true≢false (sym is))

-- with page sums a file that is not empty is forbidden
empty_before : (db log : ℕ) → cause_of_lengths true db log ≡ None → db ≡ 0
empty_before db log allowed = elim (cases_Bool (db == 0)) [
  | inl is ↦ eqb-true db 0 is
  | inr other ↦ absurd (let no : None ≡ Some cause.NotNew = sym allowed ∙ rw other refl in cc no)
]

-- the two files once their lengths were asked for
abbrev pub measured : {D : Type 0} → D → D → Files D
measured log db = record { log = log; db = db }

module _ {D : Type 0} {g : Ghosts D} where
  -- what is asked for leaves the files as they were found
  pub still : (start : Image) (old : Files D) (log db : D) → AreAsFound g start old
      → g.seen log ≡ g.seen old.log → g.seen db ≡ g.seen old.db
      → ((c : List ℕ) → g.may_leave log c → g.may_leave old.log c) → ((c : List ℕ) → g.may_leave db c → g.may_leave old.db c)
      → g.faults log ≡ g.faults old.log → g.faults db ≡ g.faults old.db
      → g.tally_of log ≡ g.tally_of old.log → g.tally_of db ≡ g.tally_of old.db
      → AreAsFound g start (measured log db)
  still start old log db found log_seen db_seen log_crash db_crash log_faults db_faults log_tally db_tally = record {
    same = ap₂ image log_seen db_seen ∙ found.same;
    crash = λ now may. found.crash now (log_crash now.log may.0, db_crash now.db may.1);
    faults = ap₂ (λ a b. a + b) log_faults db_faults ∙ found.faults;
    tally = ap₂ both_counts log_tally db_tally ∙ found.tally;
  }

  module _ (start : Image) (files : Files D) (found : AreAsFound g start files) where
    -- if the lengths of the files have no cause, those of what they held have none
    pub allowed_by : (page_sums : Bool) (db log : ℕ) (found told : Option Cause) → told ≡ None → told ≡ found
        → found ≡ cause_of_lengths page_sums db log
        → (IsTrue (g.is_clean files.db) → db ≡ length (g.seen files.db)) → (IsTrue (g.is_clean files.log) → log ≡ length (g.seen files.log))
        → IsTrue (g.is_clean files.log && g.is_clean files.db) → cause_of_files page_sums start ≡ None
    allowed_by page_sums db log cause told none is lengths db_tells log_tells clean =
        sym (ap₂ (cause_of_lengths page_sums)
        (db_tells (second_true (g.is_clean files.log) (g.is_clean files.db) clean) ∙ ap (λ (i : Image). length i.db) found.same)
        (log_tells (first_true (g.is_clean files.log) (g.is_clean files.db) clean) ∙ ap (λ (i : Image). length i.log) found.same))
        ∙ (sym lengths ∙ (sym is ∙ none))

    pub not_made : (page_sums : Bool) (error : Error) (left : Leftover D g) (told : End) → told ≡ end_of_error error
        → (IsCleanLeft left → FailsToOpenFiles files left error) → IsWhyShut page_sums start told (Some left)
    not_made page_sums error left told is fails =
        λ clean. inl (no_database start files left error told is found.same found.tally found.faults (fails clean))

    pub left_unmade : (left : Leftover D g) → (IsCleanLeft left → LeavesFiles files left) → CleanShutLeaves start left
    left_unmade left leaves = λ clean. shut_by start files left found.same found.crash (leaves clean)

    pub opened_on : (conn : Held (FileStore D g)) → (HasCleanDisk (file_state conn) → IsOpened conn)
        → (HasCleanDisk (file_state conn) → Finds files conn) → IsOpenedOn start conn
    opened_on conn opened finds = λ clean. (
      opened clean,
      let it = finds clean in
          subst (λ i. FindsIn i (file_state conn)) found.same (record { holds = it.holds; reads = it.reads }),
    )

    pub has_sums : (page_sums : Bool) (conn : Held (FileStore D g))
        → (HasCleanDisk (file_state conn) → cause_of_files page_sums start ≡ None)
        → (HasCleanDisk (file_state conn) → IsBlankAs page_sums (image_of g files) → (view conn.store).has_sums ≡ page_sums)
        → HasCleanDisk (file_state conn) → HasSumsAs page_sums start conn
    has_sums true conn allowed sums = λ clean.
        let none = empty_before (length start.db) (length start.log) (allowed clean) in
        (none, sums clean (inl (ap (λ (i : Image). length i.db) found.same ∙ none)))
    has_sums false conn allowed sums = λ clean blank. sums clean (subst (IsBlankAs false) (sym found.same) blank)
