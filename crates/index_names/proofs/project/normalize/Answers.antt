use Rattle.std.proofs.Common.{◌++◌, sym, ap, ◌∙◌, append-nil, string_bytes}
use Rattle.std.proofs.Math.ListN.{drop_of_length-le}
use Rattle.index_names.proofs.NormalForm.{rest, rest-name}
use Rattle.index_names.proofs.project.normalize.Goals as goal

pub returns : goal.returns
returns c =
    sym (append-nil (string_bytes c.loop-byte.normal))
    ∙ ap (λ y. string_bytes c.loop-byte.normal ++ rest c.loop-byte.is_apart y)
    (sym (drop_of_length-le c.args.bytes.now c.loop-byte-test.false))
    ∙ c.loop-byte.invariant ∙ rest-name c.args.bytes.now c.requires
