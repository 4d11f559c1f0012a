use Rattle.std.proofs.Common.{◌≡◌, ℕ, ◌<◌, ◌≤◌, ◌&&◌, ◌||◌, not, length}
use Rattle.tree.specs.Branches.{on}
use Rattle.reference.specs.inside.Replay.{is_flagged, blocks_of}
use Rattle.reference.proofs.state.Replayed.clear.Given as goal

abbrev pub invariant-loop-other : goal.invariant-loop-other
invariant-loop-other l = record {
  held : l.self.held ≡ l.fn.self.held;
  seen : l.self.seen ≡ l.fn.self.seen;
  calls : l.self.calls ≡ l.fn.self.calls;
  same : length l.self.bad.items ≡ length l.fn.self.bad.items;
  taken : (x : ℕ) → x < l.other → is_flagged l.self.bad.items x ≡ (is_flagged l.fn.self.bad.items x && not (on (blocks_of l.fn.self.held.items) l.place x || on (blocks_of l.fn.self.held.items) x l.place));
  later : (x : ℕ) → l.other ≤ x → is_flagged l.self.bad.items x ≡ is_flagged l.fn.self.bad.items x;
}
