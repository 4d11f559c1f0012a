use Rattle.std.proofs.Common.{ℕ, List, ◌++◌, take}
use Rattle.std.specs.List.{flat_map}
use Rattle.sha2.specs.Hashers.{Holds256}
use Rattle.txn.specs.Grammar.{output}
use Rattle.txn.proofs.hasher_input.feed_each_output.Given as goal

abbrev pub invariant-loop-o : goal.invariant-loop-o
invariant-loop-o l = (fed : List ℕ) → Holds256 l.fn.hasher fed → Holds256 l.hasher (fed ++ flat_map output.spell (take l.o-index l.outputs))
