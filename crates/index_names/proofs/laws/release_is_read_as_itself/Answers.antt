use Rattle.index_names.proofs.ReleaseLaws.{IsRelease-read_release}
use Rattle.index_names.proofs.laws.release_is_read_as_itself.Goals as goal

pub returns : goal.returns
returns c = IsRelease-read_release
