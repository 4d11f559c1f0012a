use Rattle.std.proofs.Common.{◌≡◌, ◌-◌}
use Rattle.tree.specs.Branches.{height}
use Rattle.activate.specs.CoreState.{coins_after}
use Rattle.activate.specs.inside.Disconnection.{place_at}
use Rattle.activate.proofs.disconnection.disconnect_to_fork.Given as goal

abbrev pub invariant-loop-done : goal.invariant-loop-done
invariant-loop-done g l = record {
  base : l.left.base ≡ l.fn.layer.base;
  coins : l.left.coins ≡ coins_after l.active_branch.tree.now.blocks (place_at l.active_branch.branch.now (l.top - l.done));
}
