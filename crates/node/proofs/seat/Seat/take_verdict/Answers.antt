use Rattle.node.proofs.StepAnswers.{answer_learnt}
use Rattle.node.proofs.seat.Seat.take_verdict.Goals as goal

pub returns-clause-answer : goal.returns-clause-answer
returns-clause-answer g c =
    rw (← c.self.view_is, ← c.reserve.ensures.items, ← c.in_ok-of.ensures) (answer_learnt _ _ _ c.args.valid _ _ c.in_ok-at-2.ensures.later c.in_ok-at-2.ensures.answer)
