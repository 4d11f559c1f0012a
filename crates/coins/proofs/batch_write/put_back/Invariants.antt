use Rattle.std.proofs.Common.{length, reverse}
use Rattle.coins.specs.Coins.{Coins}
use Rattle.coins.specs.inside.Changes.{Undoes}
use Rattle.coins.proofs.batch_write.put_back.Given as goal

abbrev pub invariant-loop-at : goal.invariant-loop-at
invariant-loop-at l = record {
  noted : (m : Coins) → Undoes m l.initial.coins (reverse l.initial.before.items) → Undoes m l.coins (reverse l.before.items);
  some : (m : Coins) × Undoes m l.coins (reverse l.before.items);
}

abbrev pub decreases-loop-at : goal.decreases-loop-at
decreases-loop-at l = length l.before.items
