use Rattle.std.proofs.Common.{rules, ◌≡◌, ℕ, ◌+◌, ◌<◌, below_more, arith}
use Rattle.scenario.proofs.defined_blocks.mined.Goals as goal

pub loop-nonce-preserved : goal.loop-nonce-preserved
loop-nonce-preserved c = below_more _ _ c.loop-nonce.invariant (search rules)

pub returns-else-meets_target-clause-none : goal.returns-else-meets_target-clause-none
returns-else-meets_target-clause-none c = λ n lt. below_more _ _ c.loop-nonce.invariant (search rules) n (omega arith)
