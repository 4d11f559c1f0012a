use Rattle.std.proofs.Common.{◌≡◌}
use Rattle.vectors.proofs.queue_vectors.early.Given as goal

abbrev pub invariant-loop-input : goal.invariant-loop-input
invariant-loop-input l = l.jobs.txs ≡ l.txs
