use Rattle.std.proofs.Common.{◌≡◌, ◌-◌}
use Rattle.wire.specs.computed.Reader.{many_at}
use Rattle.wire.specs.computed.Reader.{sized_at}
use Rattle.wire.specs.laws.Loop.{with_front}
use Rattle.txn.proofs.witness_decode.each_string.Given as goal

abbrev pub invariant-loop : goal.invariant-loop
invariant-loop l = with_front l.items.items (many_at sized_at (l.count - l.counter) l.bytes) ≡ many_at sized_at l.fn.count l.fn.bytes
