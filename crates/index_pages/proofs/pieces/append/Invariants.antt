use Rattle.index_pages.proofs.Words.{take, ExtendsText}
use Rattle.index_pages.specs.Html.{text_of_pieces}
use Rattle.index_pages.proofs.pieces.append.Given as goal

-- the pieces so far were added
abbrev pub invariant-loop-piece : goal.invariant-loop-piece
invariant-loop-piece g l = ExtendsText g.O.Pieces.holds l.fn.out l.out (text_of_pieces (take l.piece-index l.pieces))
