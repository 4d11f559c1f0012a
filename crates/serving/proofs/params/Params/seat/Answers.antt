use Rattle.serving.proofs.params.Params.seat.Goals as goal

pub returns-in-Err-clause-err : goal.returns-in-Err-clause-err
returns-in-Err-clause-err c = (c.in-Err.ensures.err.0, λ n h. c.in-Err.ensures.err.1 n h.0)
