use Rattle.std.proofs.Common.{◌≡◌, ℕ, ◌<◌, ◌&&◌, not, false, length, get_or}
use Rattle.tree.specs.Nodes.{mark_at}
use Rattle.tree.proofs.marks.unmark.Given as goal

abbrev pub invariant-loop-place : goal.invariant-loop-place
invariant-loop-place l =
    (length l.marks ≡ length l.fn.marks)
    × ((x : ℕ) → x < l.place → mark_at l.marks x ≡ record (mark_at l.fn.marks x) { bad = (mark_at l.fn.marks x).bad && not (get_or l.related x false) })
    × ((x : ℕ) → (x < l.place → ⊥) → mark_at l.marks x ≡ mark_at l.fn.marks x)
