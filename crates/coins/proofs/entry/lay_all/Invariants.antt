use Rattle.std.proofs.Common.{◌≡◌}
use Rattle.std.specs.Map.{keys_of}
use Rattle.std.specs.List.{IsDistinct}
use Rattle.txn.specs.declared.outpoint.OutPoint.{OutPoint}
use Rattle.coins.specs.Coins.{same}
use Rattle.coins.specs.Entries.{entry_at}
use Rattle.coins.specs.inside.Entries.{HasRoom, merge_entry_at}
use Rattle.coins.proofs.entry.lay_all.Given as goal

abbrev pub invariant-loop-at : goal.invariant-loop-at
invariant-loop-at l = record {
  room : HasRoom l.entries.entries l.at-iterator;
  distinct : IsDistinct same (keys_of l.at-iterator);
  same : (q : OutPoint) → merge_entry_at (entry_at l.entries.entries q) (entry_at l.at-iterator q) ≡ merge_entry_at (entry_at l.initial.entries.entries q) (entry_at l.fn.writes.entries q);
}
