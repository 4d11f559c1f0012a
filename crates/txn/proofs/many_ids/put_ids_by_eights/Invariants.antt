use Rattle.std.proofs.Common.{◌≡◌, ◌*◌, ◌++◌, take}
use Rattle.txn.specs.Identity.{ids_of}
use Rattle.txn.proofs.many_ids.put_ids_by_eights.Given as goal

abbrev pub invariant-turns : goal.invariant-turns
invariant-turns l = l.ids.items ≡ l.fn.ids.items ++ ids_of (take (8 * l.k) l.txs)
