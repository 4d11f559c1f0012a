use Rattle.std.proofs.Common.{ℕ, List, ◌++◌, take}
use Rattle.std.specs.List.{flat_map}
use Rattle.sha2.specs.Hashers.{Holds256}
use Rattle.wire.specs.Grammar.{sized_bytes}
use Rattle.txn.proofs.hasher_input.feed_each_string.Given as goal

abbrev pub invariant-loop-string : goal.invariant-loop-string
invariant-loop-string l = (fed : List ℕ) → Holds256 l.fn.hasher fed → Holds256 l.hasher (fed ++ flat_map sized_bytes.spell (take l.string-index l.strings))
