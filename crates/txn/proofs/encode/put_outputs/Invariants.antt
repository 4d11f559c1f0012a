use Rattle.std.proofs.Common.{◌≡◌, ◌++◌, take, length}
use Rattle.std.specs.List.{All, flat_map}
use Rattle.wire.specs.Numbers.{compact_size}
use Rattle.txn.specs.Grammar.{output}
use Rattle.txn.proofs.Lawful.{IfShort}
use Rattle.txn.proofs.encode.put_outputs.Given as goal

abbrev pub invariant-loop-o : goal.invariant-loop-o
invariant-loop-o l = record {
  written : l.out.items ≡ l.fn.out.items ++ (compact_size (length l.o-items) ++ flat_map output.spell (take l.o-index l.o-items));
  lawful : All (IfShort output (λ x. x.script)) (take l.o-index l.o-items);
}
