use Rattle.queue.proofs.crew.in_threads.Goals as goal

pub returns-then-workers-le1 : goal.returns-then-workers-le1
returns-then-workers-le1 g c = c.nothing.ensures _
