use Rattle.std.proofs.Common.{◌≡◌, take}
use Rattle.std.specs.List.{fold}
use Rattle.ripemd.specs.Block.{after_block}
use Rattle.ripemd.proofs.hasher.Ripemd160.update.Given as goal

abbrev pub invariant-loop-block : goal.invariant-loop-block
invariant-loop-block l = l.state ≡ fold after_block l.initial.state (take l.block-index l.blocks)
