use Rattle.index_desk.proofs.Words.{◌≡◌, ◌+◌, take, sum_by}
use Rattle.index_desk.proofs.desk.check.is_sum.Given as goal

abbrev pub invariant-loop-file : goal.invariant-loop-file
invariant-loop-file l = l.left + sum_by (λ file. file.size) (take l.file-index l.files) ≡ l.charge
