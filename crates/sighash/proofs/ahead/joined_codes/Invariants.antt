use Rattle.std.proofs.Common.{◌≡◌, ℕ, ◌*◌, ◌<◌, length, take, drop}
use Rattle.sighash.specs.inside.Ahead.{code_at}
use Rattle.sighash.proofs.ahead.joined_codes.Given as goal

abbrev pub invariant-loop-lane : goal.invariant-loop-lane
invariant-loop-lane l =
    let width : ℕ = length (code_at l.codes 0) in
    record {
      len : length l.joined.items ≡ l.lane * width;
      parts : (j : ℕ) → j < l.lane → take width (drop (j * width) l.joined.items) ≡ code_at l.codes j;
    }
