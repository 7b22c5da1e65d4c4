use Rattle.index_sql_writes.proofs.Words.{refl}
use Rattle.index_sql_writes.proofs.NameLemmas.{prohibits}
use Rattle.index_sql_writes.proofs.names.prohibit.Goals as goal

pub returns : goal.returns
returns c = rw (c.then-3.ensures, c.then-2.ensures, c.then.ensures, c.first.ensures, c.text-text.ensures.text) (prohibits _, refl)
