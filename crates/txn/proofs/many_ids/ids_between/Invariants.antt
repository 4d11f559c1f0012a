use Rattle.std.proofs.Common.{◌≡◌, ◌<◌, ℕ, List, length, slice_index_or}
use Rattle.std.specs.Borrow.{Bor}
use Rattle.txn.specs.inside.Marks.{lanes}
use Rattle.txn.specs.Tx.{Tx}
use Rattle.txn.specs.Grammar.{transaction}
use Rattle.txn.proofs.many_ids.ids_between.Given as goal

abbrev pub invariant-cut : goal.invariant-cut
invariant-cut l = (length l.messages ≡ lanes)
    × ((j : ℕ) (d : Bor (List ℕ)) (e : Tx) → j < l.k → (slice_index_or l.messages j d).now ≡ transaction.spell (slice_index_or l.txs j e))
