use Rattle.std.proofs.Common.{◌≡◌, ◌++◌, drop, length}
use Rattle.std.specs.Prelude.{sum}
use Rattle.undo.specs.inside.PackedCoins.{grouped}
use Rattle.undo.proofs.packed_txs.PackedTxs.unpack.Given as goal

abbrev pub invariant-loop-count : goal.invariant-loop-count
invariant-loop-count l = record {
  undo : l.undo ++ grouped (drop l.count-index l.counts) l.coins ≡ grouped l.counts l.initial.coins;
  left : sum (drop l.count-index l.counts) ≡ length l.coins;
}
