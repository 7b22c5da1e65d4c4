use Rattle.index_names.proofs.AsciiLemmas.{IsAscii-file_name}
use Rattle.index_names.proofs.SpellingLaws.{Spells-read_file_name}
use Rattle.index_names.proofs.file_name.FileName.read.Goals as goal

pub ascii-requires : goal.ascii-requires
ascii-requires c = IsAscii-file_name c.args.bytes.now _ c.in-Some.ensures.value

pub returns-clause-spells : goal.returns-clause-spells
returns-clause-spells c = Spells-read_file_name c.args.bytes.now _ c.in-Some.ensures.value
