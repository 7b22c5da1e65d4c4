use Rattle.index_http.proofs.Words.{◌≡◌, length, take}
use Rattle.index_io.specs.Bytes.{joined}
use Rattle.index_http.proofs.send.length_of.Given as goal

abbrev pub invariant-loop-piece : goal.invariant-loop-piece
invariant-loop-piece l = l.length ≡ length (joined (take l.piece-index l.pieces))
