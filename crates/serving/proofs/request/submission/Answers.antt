use Rattle.serving.proofs.request.submission.Goals as goal
use Rattle.std.proofs.Common.{inl, inr}
use Rattle.serving.specs.declared.method.Method.TheVariants as method
use Rattle.serving.specs.inside.Given.{given}
use Rattle.serving.proofs.Refusals.{is-param, takes}

pub returns-in-Err-number-clause-err : goal.returns-in-Err-number-clause-err
returns-in-Err-number-clause-err c seats =
    let none = c.in-Err-number.ensures.err in
    inr (is-param none.0, λ call h. let now = (takes seats method.Submit (given c.args.params.now) call h).1 in none.1 now.0 now.1)

pub returns-in-Err-clause-err : goal.returns-in-Err-clause-err
returns-in-Err-clause-err c seats =
    elim c.in-Err.ensures.err [
      | inl e ↦ inl e
      | inr none ↦ inr (is-param none.0, λ call h. let block = (takes seats method.Submit (given c.args.params.now) call h).0 in none.1 block.0 block.1)
    ]
