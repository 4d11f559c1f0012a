use Rattle.node.proofs.seat.Seat.early_verdicts.Goals as goal

pub returns-in_default-clause-own : goal.returns-in_default-clause-own
returns-in_default-clause-own g c = c.early_jobs.ensures.own
