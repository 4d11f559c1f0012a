use Rattle.std.proofs.Common.{ℕ, List, ◌++◌, take, length}
use Rattle.std.specs.List.{concat}
use Rattle.sha2.specs.Hashers.{Holds256}
use Rattle.wire.specs.Numbers.{compact_size}
use Rattle.script.specs.Removal.{bytes_of}
use Rattle.sighash.proofs.hasher_input.feed_script.Given as goal

abbrev pub invariant-loop-piece : goal.invariant-loop-piece
invariant-loop-piece l = (fed : List ℕ) → Holds256 l.fn.hasher fed → Holds256 l.hasher (fed ++ compact_size (length (concat (bytes_of l.pieces))) ++ concat (bytes_of (take l.piece-index l.pieces)))
