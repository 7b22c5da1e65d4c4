use Rattle.index_sql_writes.proofs.PutRecords.{prohibited_fits}
use Rattle.index_sql_writes.proofs.statements.prohibit_name.Goals as goal

pub put_name-requires : goal.put_name-requires
put_name-requires g c id = prohibited_fits c.args.name.now id
