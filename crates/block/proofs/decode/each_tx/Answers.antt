use Rattle.std.proofs.lemmas.Result.{err_from_is_err_and}
use Rattle.txn.specs.Fault.{wire_fault_of}
use Rattle.wire.specs.computed.Reader.{many_at}
use Rattle.txn.specs.computed.WitnessReader.{tx_by_at}
use Rattle.wire.specs.laws.Loop.{goes_on, ends, is_done}
use Rattle.block.proofs.decode.each_tx.Goals as goal

pub returns-in_err-read_by : goal.returns-in_err-read_by
returns-in_err-read_by c =
    let p = err_from_is_err_and c.from_residual.result c.from_residual.ensures.1 in
    rw (p.1, p.2) (ends (tx_by_at c.args.has_flag) (wire_fault_of c.in_err-read_by.field-0.0) c.loop.items.items c.args.count c.loop.counter c.loop.bytes (many_at (tx_by_at c.args.has_flag) c.args.count c.args.bytes.now) c.loop-test.true c.in_err-read_by.ensures.exact c.loop.invariant)

pub loop-preserved : goal.loop-preserved
loop-preserved c =
    rw c.in_ok-push.ensures.items (goes_on (tx_by_at c.args.has_flag) c.loop.items.items c.args.count c.loop.counter c.loop.bytes c.in_ok-read_by.field-0 c.read_by.new.bytes (many_at (tx_by_at c.args.has_flag) c.args.count c.args.bytes.now) c.loop-test.true c.in_ok-read_by.ensures.exact c.loop.invariant)

pub returns : goal.returns
returns c = rw c.from_vec.ensures (is_done (tx_by_at c.args.has_flag) c.loop.items.items c.args.count c.loop.counter c.loop.bytes (many_at (tx_by_at c.args.has_flag) c.args.count c.args.bytes.now) c.loop-test.false c.loop.invariant)
