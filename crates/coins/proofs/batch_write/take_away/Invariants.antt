use Rattle.std.proofs.Common.{◌≡◌}
use Rattle.std.specs.List.{IsDistinct}
use Rattle.std.specs.Map.{keys_of}
use Rattle.coins.specs.Coins.{same}
use Rattle.coins.specs.Changes.{after_changes}
use Rattle.coins.specs.Entries.{named}
use Rattle.coins.specs.inside.Changes.{goers}
use Rattle.coins.proofs.batch_write.take_away.Given as goal

abbrev pub invariant-loop-at : goal.invariant-loop-at
invariant-loop-at l = record {
  distinct : IsDistinct same (keys_of (named l.at-iterator));
  laid : after_changes l.coins (goers (named l.at-iterator)) ≡ after_changes l.initial.coins (goers (named l.entries.entries));
}
