use Rattle.std.proofs.Common.{◌≡◌, take, map, length}
use Rattle.undo.proofs.PackedList.{flat}
use Rattle.undo.proofs.packed_txs.PackedTxs.of.Given as goal

abbrev pub invariant-loop-spent : goal.invariant-loop-spent
invariant-loop-spent l = record {
  counts : l.counts.items ≡ map length (take l.spent-index l.txs);
  coins : l.coins ≡ flat (take l.spent-index l.txs);
}
