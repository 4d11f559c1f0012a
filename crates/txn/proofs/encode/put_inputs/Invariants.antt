use Rattle.std.proofs.Common.{◌≡◌, ◌++◌, take, length}
use Rattle.std.specs.List.{All, flat_map}
use Rattle.wire.specs.Numbers.{compact_size}
use Rattle.txn.specs.Grammar.{input}
use Rattle.txn.proofs.Lawful.{IfShort}
use Rattle.txn.proofs.encode.put_inputs.Given as goal

abbrev pub invariant-loop-i : goal.invariant-loop-i
invariant-loop-i l = record {
  written : l.out.items ≡ l.fn.out.items ++ (compact_size (length l.i-items) ++ flat_map input.spell (take l.i-index l.i-items));
  lawful : All (IfShort input (λ x. x.script)) (take l.i-index l.i-items);
}
