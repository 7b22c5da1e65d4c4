use Rattle.std.proofs.Common.{rules, ◌≡◌, refl, inl, inr, [], List, Option, false, true, Result, Ok, Err, IfErr, IfSome, IsErrAnd, IsSome}
use Rattle.std.proofs.Common.{map, string_bytes, subst, sym}
use Rattle.clap.proofs.OnLiterals.{clap_on_literals}
use Rattle.clap.specs.Words.{App, HasKind, HasMatchesOf, IsAmong, Text, app_of, fault_of, is_simple, is_simple_and_free, kind_of}
use Rattle.clap.specs.Words.{subcommand_of, subcommand_rows_of, takes}
use Rattle.clap.specs.declared.parser.matches.ArgMatches.{ArgMatches}
use Rattle.clap.specs.declared.error.Error.{Error}
use Rattle.clap.specs.declared.error.ErrorKind.TheVariants.{MissingSubcommand, OutOfMemory as NoMemory}
use Rattle.index_args.specs.declared.job.Job.{Job}
use Rattle.index_args.specs.declared.job.ArgsEnd.{ArgsEnd}
use Rattle.index_args.specs.declared.job.ArgsEnd.TheVariants.{Clap, OutOfMemory}
use Rattle.index_args.specs.Jobs.{IsJob}
use Rattle.index_args.specs.Program.{index_app}
use Rattle.index_args.specs.Reading.{IsArgsRefusal, IsEndOf}
use Rattle.index_args.proofs.job.job_in.Goals as goal

-- ---- the end that an error becomes

out_of_memory : (r : Result Job ArgsEnd) (error : Error) → kind_of error ≡ NoMemory → IsErrAnd r (IsEndOf error)
    → IfErr r (λ end. end ≡ OutOfMemory)
out_of_memory (Ok job) error kind ends = absurd ends
out_of_memory (Err OutOfMemory) error kind ends = refl
out_of_memory (Err (Clap told)) error kind ends = absurd (ends.1 kind)

refusal : (args : List Text) (r : Result Job ArgsEnd) (error : Error) → HasKind (fault_of index_app args) error → IsErrAnd r (IsEndOf error)
    → IfErr r (IsArgsRefusal args)
refusal args (Ok job) error kinds ends = absurd ends
refusal args (Err OutOfMemory) error kinds ends = tt
refusal args (Err (Clap told)) error (inl memory) ends = absurd (ends.1 memory)
refusal args (Err (Clap told)) error (inr among) ends =
    inl (subst (λ (e : Error). IsAmong (kind_of e) (fault_of index_app args)) (sym ends.0) among)

of_same : (a b : App) (args : List Text) (P : Type 0) → a ≡ b → (takes a args ≡ true → P) → takes b args ≡ true → P
of_same a b args P same passes taken = passes (subst (λ (x : App). takes x args ≡ true) (sym same) taken)

-- the program's command line is one whose faults clap names
simple : is_simple_and_free index_app ≡ true
unfolding clap_on_literals
simple = refl

-- what holds of the command that was built
no_fault : (a b : App) (args : List Text) → a ≡ b → is_simple_and_free b ≡ true → (is_simple_and_free a ≡ true → fault_of a args ≡ [])
    → fault_of b args ≡ []
no_fault a b args same is holds =
    subst (λ (x : App). fault_of x args ≡ []) same (holds (subst (λ (x : App). is_simple_and_free x ≡ true) (sym same) is))

-- the kind of an error of the command that was built
has_kind : (a b : App) (args : List Text) (error : Error) → a ≡ b → is_simple_and_free b ≡ true
    → (is_simple_and_free a ≡ true → HasKind (fault_of a args) error) → HasKind (fault_of b args) error
has_kind a b args error same is holds =
    subst (λ (x : App). HasKind (fault_of x args) error) same (holds (subst (λ (x : App). is_simple_and_free x ≡ true) (sym same) is))

-- ---- the job of the rows that clap found

plain : is_simple index_app ≡ true
unfolding clap_on_literals
plain = refl

-- the rows are those of the arguments
same_rows : (a : App) (args : List Text) (m : ArgMatches) → a ≡ index_app → HasMatchesOf a args m
    → subcommand_rows_of m ≡ subcommand_of index_app args
same_rows a args m same has = (subst (λ (x : App). HasMatchesOf x args m) same has plain).1

pub returns-in_err-matches : goal.returns-in_err-matches
returns-in_err-matches c =
    let args = map string_bytes c.args.args.now in
    record {
      job = search rules;
      read = λ taken job is.
          out_of_memory _ c.in_err-matches.field-0.0
          (of_same (app_of c.args.command.now) index_app args _ c.requires.app c.in_err-matches.ensures.passes taken)
          c.from_residual.ensures.1;
      taken = search rules;
      why =
          refusal args _ c.in_err-matches.field-0.0
          (has_kind (app_of c.args.command.now)
          index_app args c.in_err-matches.field-0.0 c.requires.app simple c.in_err-matches.ensures.kinds)
          c.from_residual.ensures.1;
    }

pub returns-in-Some : goal.returns-in-Some
returns-in-Some c =
    let args = map string_bytes c.args.args.now in
    let rows = same_rows (app_of c.args.command.now) args c.in_ok-matches.matches c.requires.app c.in_ok-matches.ensures.ok.2 in
    let is = subst (λ (r : Option Job). IfSome r (IsJob (subcommand_rows_of c.in_ok-matches.matches))) c.in-Some.is c.job_of.ensures.is in
    record {
      job = subst (λ x. IsJob x c.in-Some.job) rows is;
      read = λ _ _ _. tt;
      taken = λ _. no_fault (app_of c.args.command.now) index_app args c.requires.app simple c.in_ok-matches.ensures.kinds;
      why = tt;
    }

pub returns : goal.returns
returns c =
    let args = map string_bytes c.args.args.now in
    let rows = same_rows (app_of c.args.command.now) args c.in_ok-matches.matches c.requires.app c.in_ok-matches.ensures.ok.2 in
    let none : (job : Job) → ¬ IsJob (subcommand_of index_app args) job =
    λ job asked. let never : false ≡ true = subst IsSome c.in-None.is
    (c.job_of.ensures.found job (subst (λ x. IsJob x job) (sym rows) asked)) in cc in
    let kind : kind_of c.in_ok-error-in-None.field-0 ≡ MissingSubcommand = search rules in
    record {
      job = tt;
      read = λ _ job asked. absurd (none job asked);
      taken = λ ok. let never : false ≡ true = ok in cc;
      why = inr (kind, none);
    }
