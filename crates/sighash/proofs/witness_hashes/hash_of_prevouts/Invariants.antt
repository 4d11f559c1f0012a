use Rattle.std.proofs.Common.{take}
use Rattle.std.specs.List.{flat_map}
use Rattle.sha2.specs.Hashers.{Holds256}
use Rattle.txn.specs.Grammar.{outpoint}
use Rattle.sighash.proofs.witness_hashes.hash_of_prevouts.Given as goal

abbrev pub invariant-loop-input : goal.invariant-loop-input
invariant-loop-input l = Holds256 l.hasher (flat_map (λ i. outpoint.spell i.prev) (take l.input-index l.inputs))
