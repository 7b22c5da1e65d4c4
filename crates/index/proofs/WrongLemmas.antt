-- Wrong outcomes do not meet the words of the contracts.
use Rattle.index.proofs.Words.{◌≡◌, ◌∙◌, ◌⊎◌, ◌+◌, ◌&&◌, ℕ, suc, Bool, true, false, Option, None, Some, Result, Ok, Err, refl, sym, ap, inl}
use Rattle.index.proofs.Words.{inr, List, [], length, arith, IsErrAnd, is_ok, image_of, Image, AreClean, Ghosts, Files, Exchange, KnownList}
use Rattle.index.proofs.Words.{KnownReplies, LineEnd, ServeEnd, LinesEnd, lines_of, first_tables, Bytes, Tables, Cause, Finished, Unclosed}
use Rattle.index.proofs.Words.{Unused, End, closing_of, end_by, end_of, end_of_serving, is_store, HoldsNoIndex, IsCleanClosed, IsToldOf}
use Rattle.index.proofs.Words.{cause_of_files, Created, InitEndsOnFiles, RunEndsOnFiles, HoldsNone, Ran, AreAmong, Does, IsServingEnd, Task}
use Rattle.index.proofs.Words.{by_history, by_tables, CountWrong, WriteReport, Done, DoneLook, TaskEnds, IsDone, IsDoneInPart, subst}
use Rattle.std.specs.Prelude.{IfOk, IfErr, if◌then◌else◌}
use Rattle.index_cli.specs.Ends.{Telling}
use Rattle.index.specs.declared.end.End.TheVariants as end
use Rattle.index.specs.Refuted.{RefutesInit, RefutesLooked, RefutesTasks, RefutesWork}
use Rattle.index.specs.Runs.{DigestHas}
use Rattle.index.proofs.RefutedLemmas.{came_fewer}
use Rattle.index.proofs.ThereLemmas.{current_is_there}
use Rattle.index.proofs.WrongWent.{refutes_went}

-- ---- the end of work

abbrev pub number_in : Result ℕ End → ℕ
number_in (Ok count) = count
number_in (Err early) = 0

abbrev is_well : Result ℕ End → Bool
is_well (Ok count) = true
is_well (Err early) = false

abbrev is_want : Result ℕ End → Bool
is_want (Err end.OutOfMemory) = true
is_want _ = false

pub is_no_error : (count : ℕ) (early : End) → ¬ (Ok count ≡ Err early)
is_no_error count early is = let no : true ≡ false = ap (λ (it : Result ℕ End). is_well it) is in cc no

is_neither : (first : Bool) (fault early : End) (count : ℕ) → ¬ (Ok count ≡ (if first then Err fault else Err early))
is_neither true fault early count is = is_no_error count fault is
is_neither false fault early count is = is_no_error count early is

-- if closing failed, no work ends well
pub no_end : (told : Result ℕ End) (fault : End) (count : ℕ) → ¬ (Ok count ≡ end_by told (Err fault))
no_end (Ok n) fault count is = is_no_error count fault is
no_end (Err early) fault count is = is_neither (is_store early && is_store fault) fault early count is

-- ---- what is said of files

module _ {D : Type 0} (g : Ghosts D) where
  no_work : (task : Task) (start : Image) (count : ℕ) (clean : (log db : D) → AreClean g log db) (none : HoldsNoIndex start)
      (closed : Result (Files D) (Unclosed D g)) (told : Result ℕ End)
      → IfOk closed (λ files. AreClean g files.log files.db → Ran g (Does task told) start files)
      → ¬ (Ok count ≡ end_by told (closing_of closed))
  no_work task start count clean none (Ok files) told ran is = let it = ran (clean files.log files.db) in none (it.before, it.held)
  no_work task start count clean none (Err unclosed) told ran is = no_end told unclosed.fault count is

  no_run : (task : Task) (start : Image) (count : ℕ) (clean : (log db : D) → AreClean g log db) (none : HoldsNoIndex start)
      (run : Result (Finished D g) (Unused D g)) → RunEndsOnFiles g task start run
      → IfOk run (λ it. Ok count ≡ end_by it.end (closing_of it.closed))
      → IfErr run (λ it. IsErrAnd {T = ℕ} (Ok count) (IsToldOf it.why it.left)) → ⊥
  no_run task start count clean none (Ok run) ends done refused = no_work task start count clean none run.closed run.end ends.ran done
  no_run task start count clean none (Err it) ends done refused = absurd refused

  pub refutes_work : RefutesWork g
  refutes_work = record {
    ran = λ task told start files none it. current_is_there _ _ it.left.seen none;
    interrupted = λ task told start store none it. none (it.before, it.held);
    ends = λ task told start files emptied it. current_is_there _ _ (it.ran emptied.0).left.seen emptied.1;
    leads = λ task told start files emptied it. current_is_there _ _ (it.ended emptied.0 (image_of g files) (inl refl)).work.is.1 emptied.1;
    comes = λ task start count clean none it. no_run task start count clean none it.run it.ends it.done it.refused;
  }

  not_anew : (T : Tables) (start : Image) (files : Files D) → HoldsNone (image_of g files) ⊎ (¬ HoldsNone start) → ¬ Created g T start files
  not_anew T start files (inl none) it = current_is_there _ _ it.left.seen none
  not_anew T start files (inr some) it = some it.held

  no_made : (user digits : Bytes) (start : Image) (clean : (log db : D)
      → AreClean g log db) (some : ¬ HoldsNone start) (closed : Result (Files D) (Unclosed D g))
      → IfOk closed (λ files. AreClean g files.log files.db → DigestHas digits (λ digest. Created g (first_tables user digest) start files))
      → ¬ (Ok tt ≡ closing_of closed)
  no_made user digits start clean some (Ok files) created is = some (created (clean files.log files.db)).2.held
  no_made user digits start clean some (Err unclosed) created is =
      let no : true ≡ false = ap (λ (it : Result (Unit {0}) End). is_ok it) is in cc no

  no_init : (user digits : Bytes) (page_sums : Bool) (start : Image) (clean : (log db : D) → AreClean g log db) (some : ¬ HoldsNone start)
      (run : Result (Result (Files D) (Unclosed D g)) (Unused D g)) → InitEndsOnFiles g user digits page_sums start run
      → IfOk run (λ closed. Ok tt ≡ closing_of closed) → IfErr run (λ it. IsErrAnd {T = Unit {0}} (Ok tt) (IsToldOf it.why it.left)) → ⊥
  no_init user digits page_sums start clean some (Ok closed) ends done refused =
      no_made user digits start clean some closed ends.created done
  no_init user digits page_sums start clean some (Err it) ends done refused = absurd refused

  not_allowed : (page_sums : Bool) (start : Image) (cause : Cause) (clean : (log db : D) → AreClean g log db)
      → cause_of_files page_sums start ≡ Some cause
      → (closed : Result (Files D) (Unclosed D g)) → (IsCleanClosed closed → cause_of_files page_sums start ≡ None)
      → ¬ (Ok tt ≡ closing_of closed)
  not_allowed page_sums start cause clean forbidden (Ok files) allowed is = let no : None ≡ Some cause =
      sym (allowed (clean files.log files.db)) ∙ forbidden in cc no
  not_allowed page_sums start cause clean forbidden (Err unclosed) allowed is = let no : true ≡ false =
      ap (λ (it : Result (Unit {0}) End). is_ok it) is in cc no

  no_forbidden_init : (user digits : Bytes) (page_sums : Bool) (start : Image) (cause : Cause) (clean : (log db : D) → AreClean g log db)
      (forbidden : cause_of_files page_sums start ≡ Some cause) (run : Result (Result (Files D) (Unclosed D g)) (Unused D g))
      → InitEndsOnFiles g user digits page_sums start run
      → IfOk run (λ closed. Ok tt ≡ closing_of closed) → IfErr run (λ it. IsErrAnd {T = Unit {0}} (Ok tt) (IsToldOf it.why it.left)) → ⊥
  no_forbidden_init user digits page_sums start cause clean forbidden (Ok closed) ends done refused =
      not_allowed page_sums start cause clean forbidden closed ends.allowed done
  no_forbidden_init user digits page_sums start cause clean forbidden (Err it) ends done refused = absurd refused

  pub refutes_init : RefutesInit g
  refutes_init = record {
    created = not_anew;
    in_log = λ T start store some it. some it.held;
    ends = λ user digits page_sums start files emptied it. current_is_there _ _ (it.created emptied.0).2.left.seen emptied.1;
    anew = λ user digits page_sums start files clean some it. some (it.created clean).2.held;
    leads = λ user token start files emptied it. current_is_there _ _ (it.made emptied.0 (image_of g files) (inl refl)).1 emptied.1;
    comes = λ user digits page_sums start clean some it. no_init user digits page_sums start clean some it.run it.ends it.done it.refused;
    forbidden = λ user digits page_sums start cause clean is it. no_forbidden_init user digits page_sums start cause clean is it.run it.ends
        it.done it.refused;
  }

-- ---- what is said of a task

-- the lines that were counted are those of the input
counted_all : (tells : Telling) (T : Tables) (given : List ℕ) (left had has : Option (List ℕ)) (count : ℕ) (ended : Result ℕ LineEnd)
    → Ok count ≡ end_of ended → LinesEnd tells T (Some given) left had has ended → count ≡ length (lines_of given)
counted_all tells T given left had has count (Ok n) is ends =
    ap (λ (it : Result ℕ End). number_in it) is ∙ ends.counted ∙ ap (λ (input : List ℕ). length (lines_of input)) ends.is_input
counted_all tells T given left had has count (Err early) is ends = absurd (is_no_error count (end.Lines early) is)

-- of no connections none was answered
none_came : (later : KnownList) (replies replies' : KnownReplies) (exchanges : List Exchange)
    → AreAmong (Some []) later replies replies' exchanges → length exchanges ≡ 0
none_came later replies replies' exchanges it =
    let came = came_fewer [] it.later exchanges it.came in
    let sum : 0 ≡ length came.0 + length exchanges = came.2 in
    omega (arith, sum)

-- no table was changed
looked_alike : (task : Task) (told : Result ℕ End) (T T' : Tables) → ((done : Done) → TaskEnds task T told done → done ≡ DoneLook)
    → (¬ (T' ≡ T)) → RefutesLooked task told T T'
looked_alike task told T T' looks changed = record {
  changed = λ it.
      let after = it.is.tables it.one_bearer in
      changed (after.shows ∙ subst (λ done. IsDone by_tables done T after.later) (looks it.done it.ends) after.is);
  left = λ it.
      let went = subst (λ done. IsDoneInPart by_tables done T (λ left. left ≡ T')) (looks it.done it.ends) (it.is.tables it.one_bearer) in
      changed (went T' refl);
}

no_memory : (ended : Result (Unit {0}) ServeEnd) → ¬ (Err end.OutOfMemory ≡ end_of_serving ended)
no_memory (Ok done) is = let no : false ≡ true = ap (λ (it : Result ℕ End). is_well it) is in cc no
no_memory (Err early) is = let no : true ≡ false = ap (λ (it : Result ℕ End). is_want it) is in cc no

no_serving_end : ¬ IsServingEnd (Err end.OutOfMemory)
no_serving_end (inl (inl (cause, of, is))) = let no : true ≡ false = ap (λ (it : End). is_want (Err it)) is in cc no
no_serving_end (inl (inr is)) = let no : true ≡ false = ap (λ (it : End). is_want (Err it)) is in cc no
no_serving_end (inr it) = no_memory it.0 it.1

pub refutes_tasks : RefutesTasks
refutes_tasks = record {
  lines = λ given left had has T count done wrong it. wrong (counted_all _ T given left had has count it.ended it.is it.told);
  connections = λ at requests found later replies replies' done it.
      let none = none_came later replies replies' it.exchanges it.are in
      let counted : length it.exchanges ≡ suc requests = it.counted in
      omega (arith, none, counted);
  report = λ had has told T T' changed. looked_alike (WriteReport had has) told T T' (λ done it. it.looked) changed;
  check = λ count T done wrong it. wrong it.count;
  changes = λ told T T' changed. looked_alike CountWrong told T T' (λ done it. it.looked) changed;
  tables = λ exchange T T'. refutes_went by_tables T T' exchange;
  history = λ exchange h T'. refutes_went by_history h T' exchange;
  serve = no_serving_end;
}
