use Rattle.std.proofs.Common.{◌≡◌, reverse}
use Rattle.std.specs.List.{IsDistinct}
use Rattle.std.specs.Map.{keys_of}
use Rattle.coins.specs.Coins.{Coins, same}
use Rattle.coins.specs.Changes.{after_changes}
use Rattle.coins.specs.Entries.{named}
use Rattle.coins.specs.inside.Changes.{Undoes, comers}
use Rattle.coins.proofs.batch_write.bring_all.Given as goal

abbrev pub invariant-loop-at : goal.invariant-loop-at
invariant-loop-at l = record {
  distinct : IsDistinct same (keys_of (named l.at-iterator));
  noted : (m : Coins) → Undoes m l.initial.coins (reverse l.initial.before.items) → Undoes m l.coins (reverse l.before.items);
  laid : after_changes l.coins (comers (named l.at-iterator)) ≡ after_changes l.initial.coins (comers (named l.entries.entries));
}
