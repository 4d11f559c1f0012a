use Rattle.queue.proofs.crew.gather.Goals as goal

pub loop-report-init : goal.loop-report-init
loop-report-init g c = c.nothing-all.ensures _
