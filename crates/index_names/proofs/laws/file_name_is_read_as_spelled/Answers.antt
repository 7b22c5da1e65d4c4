use Rattle.index_names.proofs.SpellingLaws.{read_as_spelled, unread_where_unspelled}
use Rattle.index_names.proofs.laws.file_name_is_read_as_spelled.Goals as goal

pub returns : goal.returns
returns c = record { spelled = read_as_spelled; unspelled = unread_where_unspelled }
