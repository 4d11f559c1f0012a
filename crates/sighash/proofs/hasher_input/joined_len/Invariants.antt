use Rattle.std.proofs.Common.{◌≡◌, ◌≤◌, ◌*◌, ◌^◌, take, length}
use Rattle.std.specs.List.{concat}
use Rattle.script.specs.Removal.{bytes_of}
use Rattle.sighash.proofs.hasher_input.joined_len.Given as goal

abbrev pub invariant-loop-piece : goal.invariant-loop-piece
invariant-loop-piece l = (l.total ≡ length (concat (bytes_of (take l.piece-index l.pieces)))) × (l.total ≤ l.piece-index * 2 ^ 64)
