use Rattle.txn.specs.inside.Marks.{AreMarks}
use Rattle.txn.proofs.many_ids.spell_eight.Given as goal

abbrev pub invariant-spelled : goal.invariant-spelled
invariant-spelled l = AreMarks l.txs l.bytes.items l.marks l.k
