use Rattle.std.proofs.Common.{◌≡◌, ℕ, ◌<◌, ◌&&◌, length}
use Rattle.tree.specs.Branches.{on}
use Rattle.reference.specs.inside.Replay.{is_flagged, any_below, is_near, blocks_of}
use Rattle.reference.proofs.settlement.near.Given as goal

abbrev pub invariant-loop-place : goal.invariant-loop-place
invariant-loop-place l = record {
  same : length l.near.items ≡ length l.held;
  near : (x : ℕ) → x < length l.held → is_flagged l.near.items x ≡ any_below (λ c. is_near l.judged l.active c && on (blocks_of l.held) c x) l.place;
}
