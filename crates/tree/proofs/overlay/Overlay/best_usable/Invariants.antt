use Rattle.std.proofs.Common.{◌<◌, ◌-◌}
use Rattle.tree.specs.State.{has_no_mark}
use Rattle.tree.specs.Sound.{IsBest}
use Rattle.tree.specs.Nodes.{laid}
use Rattle.tree.proofs.overlay.Overlay.best_usable.Given as goal

abbrev pub invariant-loop-place : goal.invariant-loop-place
invariant-loop-place l =
    let s = laid l.self-inside.tree.now l.self-inside.marks.items in
    (0 < l.place) × IsBest s (has_no_mark s) (l.place - 1) l.best
