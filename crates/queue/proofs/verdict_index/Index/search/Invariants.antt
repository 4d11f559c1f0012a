use Rattle.std.proofs.Common.{◌<◌}
use Rattle.queue.specs.declared.verdict_index.Slot.{Slot}
use Rattle.interp.specs.Question.{question_of}
use Rattle.queue.specs.Early.{Fits}
use Rattle.queue.proofs.verdict_index.Index.search.Given as goal

abbrev pub invariant-loop-list : goal.invariant-loop-list
invariant-loop-list l = (slot : Slot) → slot.verdicts < l.list → ¬ Fits l.self.verdicts.now slot (question_of l.job)
