use Rattle.std.proofs.Common.{◌≡◌, List, ℕ, length, take, map}
use Rattle.std.specs.Int.{w32, from_le_bytes}
use Rattle.ripemd.proofs.block.words.Given as goal

abbrev pub invariant-loop-i : goal.invariant-loop-i
invariant-loop-i l = (length l.words ≡ 16) × (take l.i l.words ≡ map (λ (bytes : List ℕ). from_le_bytes w32 bytes) (take l.i l.pieces))
