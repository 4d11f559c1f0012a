use Rattle.std.proofs.Common.{◌≡◌, ◌++◌}
use Rattle.coins.specs.Entries.{Entries, named}
use Rattle.coins.proofs.changes.list.Given as goal

abbrev pub invariant-loop-at : goal.invariant-loop-at
invariant-loop-at l = (es : Entries) × (◌≡◌ {A = Entries} (es ++ l.at-iterator) l.entries.entries) × (l.list.items ≡ named es)
