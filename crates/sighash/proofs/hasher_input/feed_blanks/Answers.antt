use Rattle.std.proofs.Common.{subst}
use Rattle.sha2.specs.Hashers.{Holds256}
use Rattle.sighash.proofs.Outputs.{blank-next}
use Rattle.sighash.proofs.hasher_input.feed_blanks.Goals as goal

pub loop-preserved : goal.loop-preserved
loop-preserved c = λ fed holds.
    subst (Holds256 c.update.new.self) (blank-next fed c.args.outputs.now c.loop.index c.loop-item.result c.loop-test.true c.loop-item.is) (c.update.ensures _ (c.loop.invariant fed holds))
