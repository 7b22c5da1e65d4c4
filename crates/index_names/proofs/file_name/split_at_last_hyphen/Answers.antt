use Rattle.std.proofs.Common.{rules, ◌∙◌, sym}
use Rattle.std.proofs.lemmas.List.{take_rest}
use Rattle.index_names.proofs.HyphenLemmas.{before_last-at, after_last-at, list_any-none}
use Rattle.index_names.proofs.file_name.split_at_last_hyphen.Goals as goal

pub returns-in_err-hyphen : goal.returns-in_err-hyphen
returns-in_err-hyphen c = rw c.from_residual.ensures (list_any-none c.args.text.now (search rules))

pub returns : goal.returns
returns c = (
  sym (before_last-at c.args.text.now c.in_ok-hyphen.hyphen (search rules) (search rules) (search rules)),
  take_rest c.args.text.now _ ∙ sym (after_last-at c.args.text.now c.in_ok-hyphen.hyphen (search rules) (search rules) (search rules)),
)
