-- The queries of the walks have no recursion, so that each can end from where it stands.
use Rattle.index_sql_reads.proofs.Words.{everything, Row, Database, understood, EndsIn, command_of, index_schema, select_bodies_text}
use Rattle.index_sql_reads.proofs.Words.{select_held_text, select_files_text}

pub held_ends : (db : Database) (params : Row) → EndsIn (command_of (understood index_schema select_held_text)) db params
unfolding understood everything
held_ends db params = tt

pub files_ends : (db : Database) (params : Row) → EndsIn (command_of (understood index_schema select_files_text)) db params
unfolding understood everything
files_ends db params = tt

pub bodies_ends : (db : Database) (params : Row) → EndsIn (command_of (understood index_schema select_bodies_text)) db params
unfolding understood everything
bodies_ends db params = tt
