use Rattle.std.proofs.Common.{◌≡◌, ◌++◌, take}
use Rattle.std.specs.List.{All, flat_map}
use Rattle.txn.specs.Limits.{IsWitnessWithin}
use Rattle.txn.specs.WitnessGrammar.{witness}
use Rattle.txn.proofs.Lawful.{IfWithin}
use Rattle.txn.proofs.witness_encode.put_witnesses.Given as goal

abbrev pub invariant-loop-strings : goal.invariant-loop-strings
invariant-loop-strings l = record {
  written : l.out.items ≡ l.fn.out.items ++ flat_map witness.spell (take l.strings-index l.witnesses);
  lawful : All (IfWithin witness IsWitnessWithin) (take l.strings-index l.witnesses);
}
