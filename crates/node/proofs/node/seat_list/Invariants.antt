use Rattle.std.proofs.Common.{◌≡◌, ◌-◌, length}
use Rattle.node.specs.Pass.{opening_passes}
use Rattle.node.proofs.node.seat_list.Given as goal

abbrev pub invariant-loop : goal.invariant-loop
invariant-loop g l = record {
  list : l.list.items ≡ opening_passes g.J.Naming.origin l.counter;
  given : l.tokens ≡ l.counter;
  enough : length l.readers.items ≡ length l.initial.readers.items - l.counter;
}
