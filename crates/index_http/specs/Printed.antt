-- The text that each end of a connection prints.
use Rattle.std.specs.Prelude.{ℕ, List, codes}
use Rattle.index_http.specs.declared.connection.IoEnd.{IoEnd}
use Rattle.index_http.specs.declared.connection.IoEnd.TheVariants.{ReadFault, OutOfMemory}
use Rattle.index_http.specs.declared.connection.IoEnd.TheVariants.{WriteFault, Cut}

-- the name of an end, without its numbers
abbrev pub io_end_text : IoEnd → List ℕ
io_end_text ReadFault = codes "ReadFault"
io_end_text OutOfMemory = codes "OutOfMemory"
io_end_text (WriteFault count) = codes "WriteFault"
io_end_text (Cut count) = codes "Cut"
