use Rattle.serving.proofs.params.Params.outpoint.Goals as goal
use Rattle.serving.proofs.Refusals.{is-param}

pub returns-in-Err-clause-err : goal.returns-in-Err-clause-err
returns-in-Err-clause-err c = (is-param c.in-Err.ensures.err.0, λ o h. c.in-Err.ensures.err.1 o.id h.0)

pub returns-in-Err-number-clause-err : goal.returns-in-Err-number-clause-err
returns-in-Err-number-clause-err c =
    (is-param c.in-Err-number.ensures.err.0, λ o h. c.in-Err-number.ensures.err.1 o.index h.1)
