use Rattle.std.proofs.Common.{arith, length, ◌≤◌, Bor, List, ℕ, [], get_or}
use Rattle.std.proofs.KnownBytes.{Appends-trans}
use Rattle.index_io.proofs.Pieces.{length-joined-take, take-joined}
use Rattle.index_io.proofs.sink.write_pieces.Goals as goal

no_piece : Bor (List ℕ)
no_piece = record { ref_ptr = (0, 0); now = [] }

pub overflow_add-result : goal.overflow_add-result
unfolding no_piece
overflow_add-result g c =
    let within = length-joined-take c.args.pieces.now c.loop-piece.piece-index no_piece c.loop-piece-test.true in
    omega (arith, within, c.in-Err.ensures.front.0, c.requires, c.loop-piece.invariant.count)

pub returns-in-Err-clause-front : goal.returns-in-Err-clause-front
unfolding no_piece
returns-in-Err-clause-front g c =
    let front = c.in-Err.ensures.front in
    let within = length-joined-take c.args.pieces.now c.loop-piece.piece-index no_piece c.loop-piece-test.true in
    let few : c.in-Err.count ≤ length (get_or c.args.pieces.now c.loop-piece.piece-index no_piece).now = omega (arith, front.0) in (
      omega (arith, within, front.0, c.loop-piece.invariant.count),
      rw (
        c.loop-piece.invariant.count,
        take-joined c.args.pieces.now c.loop-piece.piece-index c.in-Err.count no_piece
            c.loop-piece-test.true few,
      )
          (Appends-trans _ _ _ _ _ c.loop-piece.invariant.sent front.1),
    )

pub overflow_add-written : goal.overflow_add-written
unfolding no_piece
overflow_add-written g c =
    let within = length-joined-take c.args.pieces.now c.loop-piece.piece-index no_piece c.loop-piece-test.true in
    omega (arith, within, c.requires, c.loop-piece.invariant.count)
