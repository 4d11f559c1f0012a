-- What was made is of the transactions before this one.
use Rattle.std.proofs.Common.{◌≡◌, map, take}
use Rattle.ffi.specs.Blocks.{made_of}
use Rattle.ffi.proofs.blocks.made_by.Given as goal

abbrev pub invariant-loop-tx : goal.invariant-loop-tx
invariant-loop-tx l = l.made.items ≡ map made_of (take l.tx-index l.txs)
