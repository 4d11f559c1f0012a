use Rattle.serving.proofs.request.entries.Goals as goal
use Rattle.std.proofs.Common.{inr}
use Rattle.serving.specs.declared.method.Method.TheVariants as method
use Rattle.serving.specs.inside.Given.{given}
use Rattle.serving.proofs.Refusals.{is-param, takes}

pub returns-in_default-Err-clause-err : goal.returns-in_default-Err-clause-err
returns-in_default-Err-clause-err c seats =
    let none = c.in_default-Err.ensures.err in
    inr (is-param none.0, λ call h. let to = (takes seats method.Journal (given c.args.params.now) call h).1 in none.1 to.0 to.1)

pub returns-in-Err-default-clause-err : goal.returns-in-Err-default-clause-err
returns-in-Err-default-clause-err c seats =
    let none = c.in-Err-default.ensures.err in
    inr (is-param none.0, λ call h. let from = (takes seats method.Journal (given c.args.params.now) call h).0 in none.1 from.0 from.1)
