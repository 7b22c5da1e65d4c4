use Rattle.std.proofs.Common.{◌≡◌, ◌++◌, drop, false, string_bytes}
use Rattle.index_names.proofs.NormalForm.{rest}
use Rattle.index_names.proofs.project.normalize.Given as goal

abbrev pub invariant-loop-byte : goal.invariant-loop-byte
invariant-loop-byte l = string_bytes l.normal ++ rest l.is_apart (drop l.byte-index l.bytes) ≡ rest false l.bytes
