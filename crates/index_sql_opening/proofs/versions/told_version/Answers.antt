use Rattle.index_sql_opening.proofs.Words.{rules}
use Rattle.index_sql_opening.proofs.LookLemmas.{looks_dropped}
use Rattle.index_sql_opening.proofs.versions.told_version.Goals as goal

pub returns-clause-looks : goal.returns-clause-looks
returns-clause-looks g c =
    looks_dropped g.S.Store c.args.conn.now _ c.query_version.new.tx.conn.now _ c.transaction-tx.ensures.begun c.requires.rest
    c.query_version.ensures.uncommitted.kept c.query_version.ensures.uncommitted.survives (search rules) (search rules) (search rules)
