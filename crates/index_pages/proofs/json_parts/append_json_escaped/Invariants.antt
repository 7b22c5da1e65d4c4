use Rattle.index_pages.proofs.Words.{take, escape, ExtendsText}
use Rattle.index_pages.proofs.json_parts.append_json_escaped.Given as goal

-- the bytes so far were added
abbrev pub invariant-loop-byte : goal.invariant-loop-byte
invariant-loop-byte g l = ExtendsText g.O.Pieces.holds l.fn.out l.out (escape (take l.byte-index l.text))
