use Rattle.std.proofs.Common.{◌≡◌, ◌-◌, ◌^◌, length, take, min, sum_by}
use Rattle.txn.specs.Tx.{Tx}
use Rattle.txn.specs.WitnessGrammar.{transaction_by}
use Rattle.block.proofs.sizes.txs_size.Given as goal

abbrev pub invariant-loop-tx : goal.invariant-loop-tx
invariant-loop-tx l = l.sum ≡ min (sum_by (λ (t : Tx). length ((transaction_by l.has_flag).spell t)) (take l.tx-index l.txs)) (2 ^ 64 - 1)
