use Rattle.index_pages.proofs.Words.{take, flat_map, ExtendsText}
use Rattle.index_pages.specs.Html.{escape_byte}
use Rattle.index_pages.proofs.html.append_escaped.Given as goal

-- the bytes so far were added
abbrev pub invariant-loop-byte : goal.invariant-loop-byte
invariant-loop-byte g l = ExtendsText g.O.Pieces.holds l.fn.out l.out (flat_map escape_byte (take l.byte-index l.text))
