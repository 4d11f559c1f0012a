use Rattle.std.proofs.Common.{◌≡◌, ◌≤◌, length, take, map}
use Rattle.model.specs.History.{own_of}
use Rattle.node.specs.Pass.{owed_entry}
use Rattle.node.proofs.entries.own_are.Given as goal

abbrev pub invariant-loop-entry : goal.invariant-loop-entry
invariant-loop-entry l = record {
  within : l.count ≤ length l.owed;
  same : own_of l.number (take l.entry-index l.entries) ≡ map (owed_entry l.number) (take l.count l.owed);
}
