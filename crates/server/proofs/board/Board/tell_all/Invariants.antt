use Rattle.std.specs.Prelude.{◌≡◌}
use Rattle.server.proofs.board.Board.tell_all.Given as goal

abbrev pub invariant-loop-place : goal.invariant-loop-place
invariant-loop-place g l = l.seat.mine ≡ l.fn.seat.mine
