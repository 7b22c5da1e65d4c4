use Rattle.std.proofs.Common.{ap, true}
use Rattle.clap.specs.Words.{App}
use Rattle.index_args.specs.Program.{IsApp, program_app}
use Rattle.index_args.proofs.command.index.Goals as goal

pub returns : goal.returns
returns c =
    let none : IsApp c.subcommand_required-index.result program_app = record {
      app = rw (c.subcommand_required-index.ensures, c.version.ensures)
          (ap (λ (a : App). record { top = record a.top { has_version = true; subcommand_required = true }; subs = a.subs })
          c.new.ensures.app);
      globals = rw (c.subcommand_required-index.ensures, c.version.ensures) c.new.ensures.local;
    } in
    let one = c.in_ok-index.ensures _ _ none c.init.ensures in
    let two = c.in_ok-index-2.ensures _ _ one c.apply.ensures in
    let three = c.in_ok-index-3.ensures _ _ two c.serve.ensures in
    let four = c.in_ok-index-4.ensures _ _ three c.on_paths.ensures in
    c.add_subcommand-5.ensures _ _ four c.on_paths-2.ensures
