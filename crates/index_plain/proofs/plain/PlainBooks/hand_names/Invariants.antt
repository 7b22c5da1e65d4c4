use Rattle.index_plain.proofs.Words.{GoesOn}
use Rattle.index_plain.proofs.RowLemmas.{held_rows_of}
use Rattle.index_plain.proofs.plain.PlainBooks.hand_names.Given as goal

abbrev pub invariant-loop-name : goal.invariant-loop-name
invariant-loop-name g l = GoesOn g.K.Taker.takes g.K.Taker.stops (held_rows_of l.self.names.entries) l.fn.taker
    (held_rows_of l.name-iterator) l.taker
