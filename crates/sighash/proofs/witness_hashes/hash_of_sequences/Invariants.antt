use Rattle.std.proofs.Common.{take}
use Rattle.std.specs.List.{flat_map}
use Rattle.sha2.specs.Hashers.{Holds256}
use Rattle.wire.specs.Grammar.{number}
use Rattle.sighash.proofs.witness_hashes.hash_of_sequences.Given as goal

abbrev pub invariant-loop-input : goal.invariant-loop-input
invariant-loop-input l = Holds256 l.hasher (flat_map (λ i. (number 4).spell i.sequence) (take l.input-index l.inputs))
