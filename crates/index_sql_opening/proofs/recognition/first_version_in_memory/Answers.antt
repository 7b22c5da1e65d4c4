use Rattle.index_sql_opening.proofs.Words.{◌∙◌, memory_is_clean, first_eight}
use Rattle.index_sql_opening.proofs.recognition.first_version_in_memory.Goals as goal

pub returns : goal.returns
returns c =
    let empty = c.in_ok-conn.ensures.empty in
    let is_open = empty.0.is_open in
    record {
      schema = c.in_ok-commit_first_version.ensures.made (memory_is_clean c.commit_first_version.new.conn) is_open
          (record { schema = empty.2; sound = (empty.1 is_open).0 }) ∙ first_eight;
    }
