use Rattle.index_sql_opening.proofs.Words.{◌∙◌, memory_is_clean}
use Rattle.index_sql_schema.proofs.CreateLemmas.{all_made}
use Rattle.index_sql_opening.proofs.recognition.index_in_memory.Goals as goal

pub returns : goal.returns
returns c =
    let empty = c.in_ok-conn.ensures.empty in
    let is_open = empty.0.is_open in
    record {
      schema = c.in_ok-commit_tables.ensures.made (memory_is_clean c.commit_tables.new.conn) is_open
          (record { schema = empty.2; sound = (empty.1 is_open).0 }) ∙ all_made;
    }
