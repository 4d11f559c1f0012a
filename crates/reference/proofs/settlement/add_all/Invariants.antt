use Rattle.std.proofs.Common.{◌≡◌, ℕ, ◌<◌, ◌||◌, length, take}
use Rattle.tree.specs.Branches.{has}
use Rattle.reference.specs.inside.Replay.{is_flagged}
use Rattle.reference.proofs.settlement.add_all.Given as goal

abbrev pub invariant-loop-index : goal.invariant-loop-index
invariant-loop-index l = record {
  same : length l.flags.items ≡ length l.fn.flags.items;
  added : (x : ℕ) → x < length l.fn.flags.items → is_flagged l.flags.items x ≡ (is_flagged l.fn.flags.items x || has (take l.index l.places) x);
}
