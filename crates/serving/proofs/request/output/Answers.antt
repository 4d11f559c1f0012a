use Rattle.serving.proofs.request.output.Goals as goal
use Rattle.std.proofs.Common.{inr}
use Rattle.serving.specs.declared.method.Method.TheVariants as method
use Rattle.serving.specs.inside.Given.{given}
use Rattle.serving.proofs.Refusals.{takes}

pub returns-in-Err-clause-err : goal.returns-in-Err-clause-err
returns-in-Err-clause-err c seats =
    let none = c.in-Err.ensures.err in
    inr (none.0, λ call h. let o = takes seats method.GetTxOut (given c.args.params.now) call h in none.1 o.0 o.1)
