use Rattle.std.proofs.Common.{◌≡◌, ◌++◌, take}
use Rattle.std.specs.List.{concat}
use Rattle.script.specs.Removal.{bytes_of}
use Rattle.sighash.proofs.code_pieces.are_code.Given as goal

-- what was looked at, and the rest
abbrev pub invariant-loop-piece : goal.invariant-loop-piece
invariant-loop-piece l = concat (bytes_of (take l.piece-index l.pieces)) ++ l.rest ≡ l.code
