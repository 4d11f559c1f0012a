use Rattle.serving.proofs.request.header.Goals as goal
use Rattle.std.proofs.Common.{inr}
use Rattle.serving.specs.declared.method.Method.TheVariants as method
use Rattle.serving.specs.inside.Given.{given}
use Rattle.serving.proofs.Refusals.{is-param, takes}

pub returns-in-Err-clause-err : goal.returns-in-Err-clause-err
returns-in-Err-clause-err c seats =
    let none = c.in-Err.ensures.err in
    inr (is-param none.0, λ call h. let it = takes seats method.GetBlockHeader (given c.args.params.now) call h in none.1 it.0 it.1)
