use Rattle.std.proofs.Common.{◌≡◌, ◌++◌}
use Rattle.coins.specs.Entries.{Entries}
use Rattle.coins.specs.inside.Entries.{AreReadied, HasRoom}
use Rattle.coins.proofs.entry.make_room.Given as goal

abbrev pub invariant-loop-at : goal.invariant-loop-at
invariant-loop-at l = AreReadied l.fn.entries.entries l.entries.entries × ((xs : Entries) × (◌≡◌ {A = Entries} (xs ++ l.at-iterator) l.fn.writes.entries) × HasRoom l.entries.entries xs)
