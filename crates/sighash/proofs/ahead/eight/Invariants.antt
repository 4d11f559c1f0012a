use Rattle.std.proofs.Common.{◌≡◌, ℕ, ◌+◌, ◌-◌, ◌*◌, ◌<◌, [], length, take, drop, slice_index_or}
use Rattle.script.specs.Removal.{bytes_of}
use Rattle.sighash.specs.inside.MessageFront.{beginning}
use Rattle.sighash.specs.inside.Flat.{with_script}
use Rattle.sighash.proofs.ahead.eight.Given as goal

-- the own parts so far, each of the width
abbrev pub invariant-loop-lane : goal.invariant-loop-lane
invariant-loop-lane l =
    let width : ℕ = l.to + l.script - 1 - l.from in
    record {
      len : length l.own.items ≡ l.lane * width;
      parts : (j : ℕ) → j < l.lane → take width (drop (j * width) l.own.items) ≡ with_script l.flat.bytes.items l.from (length (beginning l.flat.tx.now (l.first + j)) + 36) l.to (slice_index_or (bytes_of l.codes) j []);
    }
