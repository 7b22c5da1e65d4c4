-- The text that the ends of a run print.
use Rattle.std.specs.Prelude.{ℕ, List, codes}
use Rattle.index_cli.specs.declared.end.LineEnd.{LineEnd}
use Rattle.index_cli.specs.declared.end.LineEnd.TheVariants.{ReadFault, WriteFault, OutOfMemory}
use Rattle.index_cli.specs.declared.end.ServeEnd.{ServeEnd}
use Rattle.index_cli.specs.declared.end.ServeEnd.TheVariants as serve_end

-- the name of an end, and after a failed write the number of bytes that were written
abbrev pub line_end_text : LineEnd → List ℕ
line_end_text ReadFault = codes "ReadFault"
line_end_text WriteFault = codes "WriteFault"
line_end_text OutOfMemory = codes "OutOfMemory"

-- the name of the end of a run over connections
abbrev pub serve_end_text : ServeEnd → List ℕ
serve_end_text serve_end.ReadFault = codes "ReadFault"
serve_end_text serve_end.Clock = codes "Clock"
serve_end_text serve_end.Store = codes "Store"
