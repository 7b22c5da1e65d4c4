use Rattle.index_plain.proofs.Words.{◌≡◌, ◌++◌, plain_tables}
use Rattle.index_plain.proofs.RowLemmas.{file_rows_of}
use Rattle.index_plain.proofs.plain.PlainBooks.file_rows.Given as goal

abbrev pub invariant-loop-file : goal.invariant-loop-file
invariant-loop-file l = l.rows.items ++ file_rows_of (plain_tables l.self) l.name l.file-iterator
    ≡ file_rows_of (plain_tables l.self) l.name l.self.files.entries
