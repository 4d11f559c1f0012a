use Rattle.std.proofs.Common.{◌<◌, ℕ}
use Rattle.block.specs.Identity.{id_of}
use Rattle.block.specs.Target.{MeetsTarget}
use Rattle.scenario.specs.inside.DefinedBlocks.{with_nonce}
use Rattle.scenario.proofs.defined_blocks.mined.Given as goal

abbrev pub invariant-loop-nonce : goal.invariant-loop-nonce
invariant-loop-nonce l = (n : ℕ) → n < l.nonce → ¬ MeetsTarget (id_of (with_nonce l.fn.header n))
