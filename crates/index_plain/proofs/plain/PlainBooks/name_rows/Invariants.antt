use Rattle.index_plain.proofs.Words.{◌≡◌, ◌++◌, map, name_row}
use Rattle.index_plain.proofs.plain.PlainBooks.name_rows.Given as goal

abbrev pub invariant-loop-name : goal.invariant-loop-name
invariant-loop-name l = l.rows.items ++ map name_row l.name-iterator ≡ map name_row l.self.names.entries
