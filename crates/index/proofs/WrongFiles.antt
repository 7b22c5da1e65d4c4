-- Wrong openings of two files do not meet the words of the contracts.
use Rattle.index.proofs.Words.{◌≡◌, ◌∙◌, ◌⊎◌, ◌==◌, ℕ, Bool, true, false, Option, Some, IsTrue, length, nat_le, refl, sym, ap, inl, inr}
use Rattle.index.proofs.Words.{arith, cases_Bool, Leftover, Image, Ghosts, to_sink, Cause, cause_of_lengths, End, HoldsSome}
use Rattle.index.proofs.Words.{IsWhyNoDatabase}
use Rattle.sqlite.specs.Files.{faults_left}
use Rattle.index_io.specs.declared.sink.Sink.{Ghosts as Outs}
use Rattle.index.specs.declared.cause.Cause.TheVariants as cause
use Rattle.index.specs.Causes.{log_with_a_page}
use Rattle.index.specs.declared.end.End.TheVariants as end
use Rattle.index.specs.Openings.{IsWhyForbidden}
use Rattle.index.specs.Refuted.{RefutesOpening}
use Rattle.index.specs.RefutedJobs.{RefutesFiles}
use Rattle.index.proofs.WrongJobs.{refutes_causes, refutes_first_user, refutes_jobs, refutes_program, refutes_status, refutes_told}
use Rattle.index.proofs.WrongJobs.{refutes_users}
use Rattle.index.proofs.WrongLemmas.{refutes_init, refutes_work}

-- it tells that the files hold no database
abbrev is_none : End → Bool
is_none (end.Store (Some cause.NoDatabase)) = true
is_none _ = false

no_other : (told : End) → is_none told ≡ false → ¬ (end.Store (Some cause.NoDatabase) ≡ told)
no_other told other is = let no : true ≡ false = ap is_none is ∙ other in cc no

both : true ≡ false → ⊥
both is = cc is

-- no lengths of two files tell that they hold no database
abbrev is_none_of : Option Cause → Bool
is_none_of found = is_none (end.Store found)

never_none : (page_sums : Bool) (db log : ℕ) → is_none_of (cause_of_lengths page_sums db log) ≡ false
never_none page_sums db log = elim (cases_Bool (db == 0)) [
  | inl none ↦ elim (cases_Bool (nat_le log_with_a_page log)) [
    | inl room ↦ elim (cases_Bool page_sums) [ inl sums ↦ rw sums (rw none (rw room refl)) | inr plain ↦ rw plain (rw none (rw room refl)) ]
    | inr short ↦ elim (cases_Bool page_sums) [
      | inl sums ↦ rw sums (rw none (rw short refl))
      | inr plain ↦ rw plain
          (rw none (rw short refl))
    ]
  ]
  | inr other ↦ elim (cases_Bool page_sums) [ inl sums ↦ rw sums (rw other refl) | inr plain ↦ rw plain (rw other refl) ]
]

-- an empty file beside a log with room for a page has a cause
emptied_has_cause : (page_sums : Bool) (db log : ℕ) → db ≡ 0 → IsTrue (nat_le log_with_a_page log)
    → cause_of_lengths page_sums db log ≡ Some cause.Emptied
emptied_has_cause page_sums db log none room =
    rw none (elim (cases_Bool page_sums) [ inl sums ↦ rw sums (rw room refl) | inr plain ↦ rw plain (rw room refl) ])

module _ {D : Type 0} (g : Ghosts D) where
  no_reason : (start : Image) (left : Leftover D g) → HoldsSome start → faults_left left ≡ 0
      → IsWhyNoDatabase start left (end.Store (Some cause.NoDatabase)) ⊎ IsWhyForbidden false start (end.Store (Some cause.NoDatabase)) → ⊥
  no_reason start left some none (inl (inl memory)) = no_other end.OutOfMemory refl memory
  no_reason start left some none (inl (inr (inl why))) = why.1 some
  no_reason start left some none (inl (inr (inr (inl calls)))) = let failed = calls.1 in absurd (omega (arith, none, failed))
  no_reason start left some none (inl (inr (inr (inr full)))) = no_other (end.Store (Some cause.Full)) refl full.0
  no_reason start left some none (inr (found, told, is)) =
      both (ap is_none told ∙ (ap is_none_of (sym is) ∙ never_none false (length start.db) (length start.log)))

  pub refutes_opening : RefutesOpening g
  refutes_opening = record {
    inside = λ page_sums start conn inside it. both (sym inside ∙ it.outside);
    found = λ page_sums start conn clean other it. other (it.opened clean).1;
    emptied = λ page_sums start conn clean none room it.
        let no = sym (emptied_has_cause page_sums (length start.db) (length start.log) none room) ∙ it.allowed clean in cc no;
    kind = λ page_sums start told left none it. both (sym it.fault ∙ none);
    written = λ page_sums start image told files clean left other it. other (it.shut clean image left);
    none = λ start left clean some none it. no_reason start left some none (it.why clean);
  }

  pub refutes_files : {K : Type 0} (out : Outs K) → RefutesFiles g out
  refutes_files out = record {
    opening = refutes_opening;
    work = refutes_work g;
    init = refutes_init g;
    jobs = λ start before after status. refutes_jobs g start (to_sink out before after) status;
    status = λ before after found. refutes_status (to_sink out before after) tt found;
    program = λ start before after status. refutes_program g start (to_sink out before after) status;
    told = refutes_told g;
    causes = refutes_causes;
    users = refutes_users;
    first_user = refutes_first_user;
  }
