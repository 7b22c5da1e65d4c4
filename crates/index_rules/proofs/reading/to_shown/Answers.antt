use Rattle.index_rules.proofs.Words.{sym, subst}
use Rattle.std.specs.Str.{IsAscii}
use Rattle.index_names.proofs.NameLemmas.{read_name-ascii}
use Rattle.index_rules.proofs.reading.to_shown.Goals as goal

pub ascii-requires : goal.ascii-requires
ascii-requires c = subst IsAscii (sym c.as_slice.ensures) (read_name-ascii c.args.name.now c.requires)
