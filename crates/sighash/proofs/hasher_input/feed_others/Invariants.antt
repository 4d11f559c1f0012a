use Rattle.std.proofs.Common.{ℕ, List, ◌++◌, take, map}
use Rattle.std.specs.List.{flat_map}
use Rattle.sha2.specs.Hashers.{Holds256}
use Rattle.txn.specs.Grammar as grammar
use Rattle.sighash.specs.Digest.{other_input}
use Rattle.sighash.proofs.hasher_input.feed_others.Given as goal

abbrev pub invariant-loop-input : goal.invariant-loop-input
invariant-loop-input l = (fed : List ℕ) → Holds256 l.fn.hasher fed → Holds256 l.hasher (fed ++ flat_map grammar.input.spell (map (other_input l.kind) (take l.input-index l.inputs)))
