use Rattle.std.proofs.Common.{◌≡◌, ℕ, [], length}
use Rattle.tree.specs.Nodes.{mark_at, state_of}
use Rattle.tree.specs.inside.Nodes.{AreUsable, SameFlags}
use Rattle.tree.proofs.marks.spoil.Given as goal

abbrev pub invariant-loop-place : goal.invariant-loop-place
invariant-loop-place l =
    (length l.marks ≡ length l.nodes) × ((p : ℕ) → SameFlags (mark_at l.marks p) (mark_at l.fn.marks p)) × AreUsable (state_of l.nodes l.fn.marks []) l.marks l.place
