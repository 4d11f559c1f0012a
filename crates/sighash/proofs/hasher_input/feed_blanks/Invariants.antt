use Rattle.std.proofs.Common.{ℕ, List, ◌++◌, take, map}
use Rattle.std.specs.List.{flat_map}
use Rattle.sha2.specs.Hashers.{Holds256}
use Rattle.txn.specs.Grammar as grammar
use Rattle.sighash.specs.Digest.{blank_output}
use Rattle.sighash.proofs.hasher_input.feed_blanks.Given as goal

abbrev pub invariant-loop : goal.invariant-loop
invariant-loop l = (fed : List ℕ) → Holds256 l.fn.hasher fed → Holds256 l.hasher (fed ++ flat_map grammar.output.spell (map (λ _. blank_output) (take l.index l.outputs)))
