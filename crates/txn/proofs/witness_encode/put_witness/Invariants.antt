use Rattle.std.proofs.Common.{◌≡◌, List, ℕ, ◌++◌, take, length}
use Rattle.std.specs.List.{All, flat_map}
use Rattle.wire.specs.Numbers.{compact_size}
use Rattle.wire.specs.Grammar.{sized_bytes}
use Rattle.txn.proofs.Lawful.{IfShort}
use Rattle.txn.proofs.witness_encode.put_witness.Given as goal

abbrev pub invariant-loop-string : goal.invariant-loop-string
invariant-loop-string l = record {
  written : l.out.items ≡ l.fn.out.items ++ (compact_size (length l.string-items) ++ flat_map sized_bytes.spell (take l.string-index l.string-items));
  lawful : All (IfShort sized_bytes (λ (s : List ℕ). s)) (take l.string-index l.string-items);
}
