use Rattle.std.proofs.Common.{◌≡◌, ℕ, ◌<◌, ◌≤◌, ◌&&◌, ◌||◌, length}
use Rattle.reference.specs.inside.Replay.{is_flagged, judgement_in, is_first, is_valid}
use Rattle.reference.proofs.settlement.raise.Given as goal

abbrev pub invariant-loop-place : goal.invariant-loop-place
invariant-loop-place l = record {
  same_bad : length l.bad.items ≡ length l.near;
  same_seen : length l.seen.items ≡ length l.near;
  bad : (x : ℕ) → x < l.place → is_flagged l.bad.items x ≡ (is_flagged l.fn.bad.items x || (is_first (judgement_in l.judged x).trial && is_flagged l.near x));
  seen : (x : ℕ) → x < l.place → is_flagged l.seen.items x ≡ (is_flagged l.fn.seen.items x || (is_valid (judgement_in l.judged x).trial && is_flagged l.near x));
  later_bad : (x : ℕ) → l.place ≤ x → is_flagged l.bad.items x ≡ is_flagged l.fn.bad.items x;
  later_seen : (x : ℕ) → l.place ≤ x → is_flagged l.seen.items x ≡ is_flagged l.fn.seen.items x;
}
