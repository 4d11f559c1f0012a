use Rattle.std.proofs.Common.{◌≡◌, ◌-◌}
use Rattle.wire.specs.computed.Reader.{many_at}
use Rattle.txn.specs.computed.Reader.{tx_at}
use Rattle.wire.specs.laws.Loop.{with_front}
use Rattle.ffi.proofs.front.each_tx.Given as goal

abbrev pub invariant-loop : goal.invariant-loop
invariant-loop l = with_front l.items.items (many_at tx_at (l.count - l.counter) l.bytes) ≡ many_at tx_at l.fn.count l.fn.bytes
