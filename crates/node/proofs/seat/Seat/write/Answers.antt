use Rattle.node.proofs.seat.Seat.write.Goals as goal

pub write_under_lock-answer-requires-clause-news : goal.write_under_lock-answer-requires-clause-news
write_under_lock-answer-requires-clause-news g c _ _ = c.requires.ordinary _
