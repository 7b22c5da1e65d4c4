use Rattle.index_plain.proofs.Words.{GoesOn, plain_tables}
use Rattle.index_plain.proofs.RowLemmas.{file_rows_of}
use Rattle.index_plain.proofs.plain.PlainBooks.hand_files.Given as goal

abbrev pub invariant-loop-file : goal.invariant-loop-file
invariant-loop-file g l = GoesOn g.K.Taker.takes g.K.Taker.stops (file_rows_of (plain_tables l.self) l.name l.self.files.entries) l.fn.taker
    (file_rows_of (plain_tables l.self) l.name l.file-iterator) l.taker
