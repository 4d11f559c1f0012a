use Rattle.std.proofs.Common.{◌≡◌, ◌-◌, ◌^◌, length, take, min, sum_by}
use Rattle.txn.specs.Tx.{Witness}
use Rattle.txn.specs.WitnessGrammar.{witness}
use Rattle.txn.proofs.sizes.witnesses_size.Given as goal

abbrev pub invariant-loop-strings : goal.invariant-loop-strings
invariant-loop-strings l = l.sum ≡ min (sum_by (λ (w : Witness). length (witness.spell w)) (take l.strings-index l.witnesses)) (2 ^ 64 - 1)
