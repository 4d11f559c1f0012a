use Rattle.std.proofs.Common.{◌≡◌, ◌++◌, take, length}
use Rattle.std.specs.List.{All, flat_map}
use Rattle.wire.specs.Numbers.{compact_size}
use Rattle.txn.specs.WitnessGrammar.{transaction_by}
use Rattle.block.proofs.Lawful.{IfWithin}
use Rattle.block.proofs.encode.put_txs.Given as goal

abbrev pub invariant-loop-tx : goal.invariant-loop-tx
invariant-loop-tx l = record {
  written : l.out.items ≡ l.fn.out.items ++ (compact_size (length l.tx-items) ++ flat_map (transaction_by l.has_flag).spell (take l.tx-index l.tx-items));
  lawful : All (IfWithin l.has_flag) (take l.tx-index l.tx-items);
}
