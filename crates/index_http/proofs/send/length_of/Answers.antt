use Rattle.index_http.proofs.Words.{arith, Bor, List, ℕ, []}
use Rattle.index_io.proofs.Pieces.{length-joined-take}
use Rattle.index_http.proofs.send.length_of.Goals as goal

no_piece : Bor (List ℕ)
no_piece = record { ref_ptr = (0, 0); now = [] }

pub overflow_add-length : goal.overflow_add-length
unfolding no_piece
overflow_add-length c =
    let within = length-joined-take c.args.pieces.now c.loop-piece.piece-index no_piece c.loop-piece-test.true in
    omega (arith, within, c.requires, c.loop-piece.invariant)
