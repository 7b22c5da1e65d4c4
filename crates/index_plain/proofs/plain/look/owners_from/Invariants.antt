use Rattle.index_plain.proofs.Words.{◌≡◌, ◌++◌, keys}
use Rattle.index_plain.proofs.plain.look.owners_from.Given as goal

abbrev pub invariant-loop-user : goal.invariant-loop-user
invariant-loop-user l = l.copies.items ++ l.user-iterator ≡ keys l.users
