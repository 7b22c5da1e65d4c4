use Rattle.index_plain.proofs.Words.{sym, subst}
use Rattle.index_rules.specs.declared.change.Change.TheVariants.{BanFile}
use Rattle.index_plain.specs.Plain.{Makes}
use Rattle.index_plain.proofs.plain.PlainBooks.ban_file.Goals as goal

pub returns-in-None : goal.returns-in-None
returns-in-None c = record {
  made = subst
      (λ project. Makes (BanFile c.args.name.now project c.args.file.now c.args.known)
      c.args.self.now c.ban_alone.new.self c.ban_alone.result)
      (sym c.in-None.is)
      (c.ban_alone.ensures.made c.args.name.now);
}
