use Rattle.std.proofs.Common.{arith}
use Rattle.std.proofs.lemmas.Int.{ints}
use Rattle.connect.proofs.Steps.{total-next}
use Rattle.connect.proofs.amounts.paid.Goals as goal

pub loop-output-preserved : goal.loop-output-preserved
loop-output-preserved c =
    let next = total-next c.args.outputs.now c.loop-output.output-index c.output-item.result (omega arith) c.output-item.is in
    let value = c.from-sum.ensures in
    record { sum = omega (arith, ints); low = omega (arith, ints); high = omega (arith, ints) }
