use Rattle.index_names.proofs.NormalFormLaws.{IsNormalName-read_name}
use Rattle.index_names.proofs.laws.normal_form_is_read_as_itself.Goals as goal

pub returns : goal.returns
returns c = IsNormalName-read_name
