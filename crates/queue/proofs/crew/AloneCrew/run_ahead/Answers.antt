use Rattle.queue.proofs.crew.AloneCrew.run_ahead.Goals as goal

pub returns : goal.returns
returns g c = c.nothing.ensures _
