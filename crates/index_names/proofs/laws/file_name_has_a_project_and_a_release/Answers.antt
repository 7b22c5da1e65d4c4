use Rattle.index_names.proofs.SpellingLaws.{parts-read_file_name}
use Rattle.index_names.proofs.laws.file_name_has_a_project_and_a_release.Goals as goal

pub returns : goal.returns
returns c = parts-read_file_name
