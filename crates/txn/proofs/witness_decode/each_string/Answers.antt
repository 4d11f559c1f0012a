use Rattle.std.proofs.lemmas.Result.{err_from_is_err_and}
use Rattle.txn.specs.Fault.{wire_fault_of}
use Rattle.wire.specs.computed.Reader.{many_at}
use Rattle.wire.specs.computed.Reader.{sized_at}
use Rattle.wire.specs.laws.Loop.{goes_on, ends, is_done}
use Rattle.txn.proofs.witness_decode.each_string.Goals as goal

pub returns-in_err-script : goal.returns-in_err-script
returns-in_err-script c =
    let p = err_from_is_err_and c.from_residual.result c.from_residual.ensures.1 in
    rw (p.1, p.2) (ends sized_at (wire_fault_of c.in_err-script.field-0.0) c.loop.items.items c.args.count c.loop.counter c.loop.bytes (many_at sized_at c.args.count c.args.bytes.now) c.loop-test.true c.in_err-script.ensures c.loop.invariant)

pub loop-preserved : goal.loop-preserved
loop-preserved c =
    rw c.in_ok-push.ensures.items (goes_on sized_at c.loop.items.items c.args.count c.loop.counter c.loop.bytes c.in_ok-script.field-0 c.script.new.bytes (many_at sized_at c.args.count c.args.bytes.now) c.loop-test.true c.in_ok-script.ensures c.loop.invariant)

pub returns : goal.returns
returns c = rw c.from_vec.ensures (is_done sized_at c.loop.items.items c.args.count c.loop.counter c.loop.bytes (many_at sized_at c.args.count c.args.bytes.now) c.loop-test.false c.loop.invariant)
