use Rattle.serving.proofs.request.coins.Goals as goal
use Rattle.std.proofs.Common.{inr}
use Rattle.serving.specs.declared.method.Method.TheVariants as method
use Rattle.serving.specs.inside.Given.{given}
use Rattle.serving.proofs.Refusals.{is-param, takes}

pub returns-in_default-Err-clause-err : goal.returns-in_default-Err-clause-err
returns-in_default-Err-clause-err c seats =
    let none = c.in_default-Err.ensures.err in
    inr (is-param none.0, λ call h. let most = (takes seats method.Coins (given c.args.params.now) call h).1 in none.1 most.0 most.1)

pub returns-in-Err-default-clause-err : goal.returns-in-Err-default-clause-err
returns-in-Err-default-clause-err c seats =
    let none = c.in-Err-default.ensures.err in
    inr (none.0, λ call h. let above = (takes seats method.Coins (given c.args.params.now) call h).0 in none.1 above.0 above.1)
