use Rattle.std.proofs.Common.{◌≡◌, ℕ, ◌<◌, ◌≤◌, length, slice_index}
use Rattle.sha2.specs.Sha256.{add32, round_constants, schedule}
use Rattle.lanes.proofs.schedule.sums.Given as goal

abbrev pub invariant-rounds : goal.invariant-rounds
invariant-rounds l = record {
  len : length l.sums ≡ 64;
  done : (j : ℕ) → j < l.t → slice_index l.sums j ≡ add32 (slice_index (schedule l.block 48) j) (slice_index round_constants j);
  left : (j : ℕ) → l.t ≤ j → j < 64 → slice_index l.sums j ≡ slice_index (schedule l.block 48) j;
}
