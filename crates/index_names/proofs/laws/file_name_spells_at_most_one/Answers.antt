use Rattle.index_names.proofs.SpellingLaws.{spells_at_most_one}
use Rattle.index_names.proofs.laws.file_name_spells_at_most_one.Goals as goal

pub returns : goal.returns
returns c = spells_at_most_one
