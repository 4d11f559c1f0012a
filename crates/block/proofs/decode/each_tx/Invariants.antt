use Rattle.std.proofs.Common.{◌≡◌, ◌-◌}
use Rattle.wire.specs.computed.Reader.{many_at}
use Rattle.txn.specs.computed.WitnessReader.{tx_by_at}
use Rattle.wire.specs.laws.Loop.{with_front}
use Rattle.block.proofs.decode.each_tx.Given as goal

abbrev pub invariant-loop : goal.invariant-loop
invariant-loop l = with_front l.items.items (many_at (tx_by_at l.has_flag) (l.count - l.counter) l.bytes) ≡ many_at (tx_by_at l.fn.has_flag) l.fn.count l.fn.bytes
