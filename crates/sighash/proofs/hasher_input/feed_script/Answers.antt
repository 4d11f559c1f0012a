use Rattle.std.proofs.Common.{subst}
use Rattle.sha2.specs.Hashers.{Holds256}
use Rattle.sighash.proofs.Pieces.{fed-next}
use Rattle.sighash.proofs.hasher_input.feed_script.Goals as goal

pub loop-piece-preserved : goal.loop-piece-preserved
loop-piece-preserved c = λ fed holds.
    subst (Holds256 c.update.new.self) (fed-next _ c.args.pieces.now c.loop-piece.piece-index _ c.loop-piece-test.true) (c.update.ensures _ (c.loop-piece.invariant fed holds))
