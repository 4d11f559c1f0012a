use Rattle.std.proofs.Common.{◌≡◌, ◌++◌, length, take}
use Rattle.std.specs.List.{flat_map}
use Rattle.wire.specs.Numbers.{compact_size}
use Rattle.txn.specs.Grammar.{output}
use Rattle.sighash.proofs.flat.put_outputs.Given as goal

abbrev pub invariant-loop-output : goal.invariant-loop-output
invariant-loop-output l = l.out.items ≡ l.fn.out.items ++ (compact_size (length l.outputs) ++ flat_map output.spell (take l.output-index l.outputs))
