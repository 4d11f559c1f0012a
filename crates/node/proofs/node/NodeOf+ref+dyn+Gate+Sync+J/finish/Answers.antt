use Rattle.std.proofs.Common.{List, sym, subst}
use Rattle.model.specs.declared.entry.Entry.{Entry}
use Rattle.node.specs.Pass.{IsStanding}
use Rattle.node.proofs.node.NodeOf+ref+dyn+Gate+Sync+J.finish.Goals as goal

pub returns-in-Ok-clause-each : goal.returns-in-Ok-clause-each
returns-in-Ok-clause-each g c k p at = subst (λ (l : List Entry). IsStanding l p) (sym c.into_journal.ensures) (c.in-Ok.ensures.each k p at)
