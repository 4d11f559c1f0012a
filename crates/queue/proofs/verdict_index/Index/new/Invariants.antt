use Rattle.queue.proofs.Pairs.{CoversBelow}
use Rattle.queue.proofs.verdict_index.Index.new.Given as goal

abbrev pub invariant-loop-list : goal.invariant-loop-list
invariant-loop-list l = CoversBelow l.verdicts l.list l.slots.entries
