use Rattle.std.proofs.Common.{◌≡◌, length, take}
use Rattle.std.specs.Io.KnownBytes.{Appends}
use Rattle.index_io.specs.Bytes.{joined}
use Rattle.index_io.proofs.sink.write_pieces.Given as goal

-- the pieces so far went out
abbrev pub invariant-loop-piece : goal.invariant-loop-piece
invariant-loop-piece g l = record {
  count : l.written ≡ length (joined (take l.piece-index l.pieces));
  sent : Appends (g.K.Sink.contents l.fn.sink) (g.K.Sink.contents l.sink) (joined (take l.piece-index l.pieces));
  kept : g.K.Sink.failures l.sink ≡ g.K.Sink.failures l.fn.sink;
}
