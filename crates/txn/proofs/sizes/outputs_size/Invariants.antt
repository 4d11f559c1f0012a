use Rattle.std.proofs.Common.{◌≡◌, ◌-◌, ◌^◌, length, take, min, sum_by}
use Rattle.txn.specs.declared.output.TxOut.{TxOut}
use Rattle.txn.specs.Grammar as grammar
use Rattle.txn.proofs.sizes.outputs_size.Given as goal

abbrev pub invariant-loop-output : goal.invariant-loop-output
invariant-loop-output l = l.sum ≡ min (sum_by (λ (o : TxOut). length (grammar.output.spell o)) (take l.output-index l.outputs)) (2 ^ 64 - 1)
