use Rattle.std.proofs.Common.{◌≡◌, length}
use Rattle.node.proofs.published_history.new_history.all_readers.Given as goal

abbrev pub invariant-loop : goal.invariant-loop
invariant-loop g l = length l.list.items ≡ l.counter
