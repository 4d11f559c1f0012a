use Rattle.std.proofs.Common.{ℕ, List, [], Bor, arith}
use Rattle.sighash.proofs.Pieces.{length-next}
use Rattle.sighash.proofs.hasher_input.joined_len.Goals as goal

pub loop-piece-preserved : goal.loop-piece-preserved
loop-piece-preserved c =
    let none : Bor (List ℕ) = record { ref_ptr = (0, 0); now = [] } in
    let more = length-next c.args.pieces.now c.loop-piece.piece-index none c.loop-piece-test.true in (
      omega (arith, more, c.from-total.ensures, c.len.ensures, c.loop-piece.invariant.0),
      omega (arith, c.from-total.ensures, c.len.type_inv, c.loop-piece.invariant.1),
    )
