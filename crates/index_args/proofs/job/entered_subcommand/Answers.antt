use Rattle.std.proofs.Common.{◌≡◌, Option, Some, None, option_map, refl}
use Rattle.std.specs.Box.{box_value}
use Rattle.clap.specs.Words.{found_of, rows_of}
use Rattle.clap.specs.declared.parser.matches.ArgMatches.TheViews.{out-ArgMatches, out-SubCommand}
use Rattle.index_args.proofs.job.entered_subcommand.Goals as goal

module _ {S P A B : Type 0} where
  -- two parts of what is there, told one by one
  joined : (o : Option S) (r : Option P) (n : S → A) (w : S → B) (m : P → A) (v : P → B) → option_map m r ≡ option_map n o
      → option_map v r ≡ option_map (λ (p : A × B). p.1) (option_map {U = A × B} (λ b. (n b, w b)) o)
      → option_map {U = A × B} (λ p. (m p, v p)) r ≡ option_map {U = A × B} (λ b. (n b, w b)) o
  joined None None n w m v e f = refl
  joined None (Some p) n w m v e f = cc
  joined (Some b) None n w m v e f = cc
  joined (Some b) (Some p) n w m v e f = cc

pub returns : goal.returns
returns c =
    joined (out-ArgMatches c.args.matches.now).subcommand c.subcommand.result (λ b. (out-SubCommand (box_value b)).name.now)
    (λ b. rows_of (found_of (out-SubCommand (box_value b)).matches)) (λ p. p.0.now) (λ p. rows_of (found_of p.1.now))
    c.subcommand.ensures.name c.subcommand.ensures.rows
