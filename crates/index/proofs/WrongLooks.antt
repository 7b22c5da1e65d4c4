-- Wrong outcomes of looks and of reports do not meet the words of the contracts.
use Rattle.index.proofs.Words.{◌≡◌, ◌∙◌, Some, refl, sym, subst}
use Rattle.index_io.specs.declared.sink.Sink.{Ghosts as Outs}
use Rattle.index_rules.specs.declared.books.Books.{Ghosts}
use Rattle.index_rules.specs.declared.records.FileRecord.{FileRecord}
use Rattle.index_rules.specs.Sound.{IsBodyOf}
use Rattle.index.specs.RefutedLooks.{RefutesBytes, RefutesLooks, RefutesReports}

pub refutes_looks : {S : Type 0} (g : Ghosts S) (old new : S) → g.IsHonest new → g.IsClean new → RefutesLooks g old new
refutes_looks g old new honest clean = record {
  changed = λ changed. record {
    look = λ result it. changed (it.unchanged honest);
    walk = λ result it. changed (it.unchanged honest);
    leaves = λ it. changed (it.unchanged honest);
  };
  hidden = λ found failed it. failed it.kept;
  memory = λ failed it. failed it.stores;
  number = λ count wrong it. wrong (it.found honest).0;
  bytes = λ file body wrong it. wrong (it.found honest);
  history = λ h file body stands wrong it. wrong (it.history honest h stands);
  rows = λ rows wrong it. let (those, are, is) = it.walked (it.look.honest honest) clean in wrong (sym are ∙ is);
  bearers = λ one wrong it. wrong (it.one_bearer honest one);
}

pub refutes_bytes : RefutesBytes
refutes_bytes T file body known is wrong it =
    let both : Some it.0 ≡ Some known = sym it.1 ∙ is in
    let same : it.0 ≡ known = cc in
    wrong (subst (λ (it : FileRecord). IsBodyOf it body) same it.2)

pub refutes_reports : {S K : Type 0} (g : Ghosts S) (out : Outs K) (old new : S) (before after : K)
    → RefutesReports g out old new before after
refutes_reports g out old new before after = record {
  write = λ failed it. failed (it.writes refl);
  store = λ failed it. failed it.kept;
  memory = λ failed it. failed it.stores;
  text = λ text wrong it. wrong it;
}
