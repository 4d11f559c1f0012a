use Rattle.std.proofs.Common.{◌≡◌, ℕ, ◌-◌, length, take}
use Rattle.coins.specs.Coins.{Coins}
use Rattle.connect.specs.Turns.{effect}
use Rattle.connect.specs.inside.AppliedTransactions.{AreApplied}
use Rattle.connect.proofs.disconnect_block.revert_all.Given as goal

abbrev pub invariant-loop-done : goal.invariant-loop-done
invariant-loop-done g l = record {
  base : l.layer.base ≡ l.initial.layer.base;
  back : (height : ℕ) (before : Coins) → AreApplied height before l.txs l.initial.layer.coins l.undo → l.layer.coins ≡ effect height before (take (length l.txs - l.done) l.txs);
}
