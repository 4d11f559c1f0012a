use Rattle.std.proofs.Common.{◌≡◌, ◌-◌, ◌^◌, length, take, min, sum_by}
use Rattle.txn.specs.declared.input.TxIn.{TxIn}
use Rattle.txn.specs.Grammar as grammar
use Rattle.txn.proofs.sizes.inputs_size.Given as goal

abbrev pub invariant-loop-input : goal.invariant-loop-input
invariant-loop-input l = l.sum ≡ min (sum_by (λ (i : TxIn). length (grammar.input.spell i)) (take l.input-index l.inputs)) (2 ^ 64 - 1)
