use Rattle.std.proofs.Common.{◌≡◌, take}
use Rattle.txn.specs.Check.{prevs}
use Rattle.txn.proofs.check_transaction.prevs.Given as goal

abbrev pub invariant-loop-input : goal.invariant-loop-input
invariant-loop-input l = l.outpoints.items ≡ prevs (take l.input-index l.inputs)
