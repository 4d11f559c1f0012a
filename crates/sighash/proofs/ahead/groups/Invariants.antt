use Rattle.std.proofs.Common.{◌≡◌, ◌*◌, ◌≤◌, length}
use Rattle.sighash.specs.inside.Ahead.{AreGroups, IsBegun}
use Rattle.sighash.specs.inside.MessageFront.{beginning}
use Rattle.sighash.proofs.ahead.groups.Given as goal

abbrev pub invariant-loop-number : goal.invariant-loop-number
invariant-loop-number g l = record {
  groups : AreGroups l.tx l.groups.items;
  count : length l.groups.items ≡ l.number;
  begun : IsBegun l.flat.bytes.items l.begun;
  before : l.begun.fed ≤ length (beginning l.tx (8 * l.number));
}
