use Rattle.std.proofs.Common.{rules}
use Rattle.std.proofs.lemmas.List.{take_rest}
use Rattle.index_names.proofs.HyphenLemmas.{slice_split-at, slice_split-lacking}
use Rattle.index_names.proofs.file_name.split_at_first_hyphen.Goals as goal

pub returns-in_err-hyphen : goal.returns-in_err-hyphen
returns-in_err-hyphen c = rw c.from_residual.ensures (slice_split-lacking c.args.text.now (search rules))

pub returns : goal.returns
returns c = rw take_rest (slice_split-at c.args.text.now c.in_ok-hyphen.hyphen (search rules) (search rules) (search rules))
