use Rattle.std.proofs.Common.{◌≡◌, ◌∙◌, ℕ, true, false, ap, refl, rules, Option, Some, codes, List}
use Rattle.std.specs.Prelude.{bytes_eq}
use Rattle.clap.specs.Words.{Row, Text}
use Rattle.index_args.specs.declared.job.Job.{Job}
use Rattle.index_args.specs.declared.job.Job.TheVariants as job
use Rattle.index_args.specs.Jobs.{HasNumberOrNone, IsJob, rows_in}
use Rattle.index_args.proofs.job.serve_of.Goals as goal

-- a subcommand of another name
other : (P : Type 0) (name : Text) → codes "serve" ≡ name → bytes_eq name (codes "serve") ≡ false → P
other P name same differs = let never : true ≡ false = ap (λ text. bytes_eq text (codes "serve")) same ∙ differs in cc

-- if the option is misread, there is no such job
misread : (rows : List Row) (P : Type 0) → ((n : Option ℕ) → HasNumberOrNone (codes "keep-recent") rows n → false ≡ true) → (asked : Job)
    → IsJob (Some (codes "serve", rows)) asked → P
misread rows P none (job.Init paths user token page_sums) is = other P _ is.0 refl
misread rows P none (job.Apply paths) is = other P _ is.0 refl
misread rows P none (job.Serve paths args) is = let never = none args.keep_recent is.10 in cc
misread rows P none (job.Report paths) is = other P _ is.0 refl
misread rows P none (job.Check paths) is = other P _ is.0 refl

pub returns-in_err-keep_recent : goal.returns-in_err-keep_recent
returns-in_err-keep_recent c = record {
  is = search rules;
  found = λ asked is. misread (rows_in c.args.given.now) _ (λ n kept. c.in_err-keep_recent.ensures.found n kept) asked is;
}
