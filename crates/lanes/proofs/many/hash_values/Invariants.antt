use Rattle.std.proofs.Common.{◌≡◌, ◌<◌, ℕ}
use Rattle.lanes.specs.Lane.{lanes}
use Rattle.lanes.specs.inside.Messages.{message_at}
use Rattle.lanes.specs.inside.PaddedBlocks.{after_blocks}
use Rattle.lanes.specs.State.{lane}
use Rattle.lanes.proofs.many.hash_values.Given as goal

abbrev pub invariant-turns : goal.invariant-turns
invariant-turns loop = (l : ℕ) → l < lanes → lane loop.state l ≡ after_blocks (message_at loop.messages l) loop.i
