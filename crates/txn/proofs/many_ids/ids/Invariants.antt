use Rattle.std.proofs.Common.{◌≡◌, take}
use Rattle.txn.specs.Identity.{ids_of}
use Rattle.txn.proofs.many_ids.ids.Given as goal

abbrev pub invariant-loop-k : goal.invariant-loop-k
invariant-loop-k l = l.ids.items ≡ ids_of (take l.k l.txs)
