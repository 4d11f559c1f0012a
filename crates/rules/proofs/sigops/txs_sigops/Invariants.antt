use Rattle.std.proofs.Common.{◌≡◌, ◌-◌, ◌^◌, take, min, sum_by}
use Rattle.rules.specs.Alone.{tx_sigops}
use Rattle.rules.proofs.sigops.txs_sigops.Given as goal

abbrev pub invariant-loop-tx : goal.invariant-loop-tx
invariant-loop-tx l = l.sum ≡ min (sum_by tx_sigops (take l.tx-index l.txs)) (2 ^ 128 - 1)
