use Rattle.std.proofs.Common.{refl}
use Rattle.node.proofs.node.NodeOf+ref+dyn+Gate+Sync+J.fitting_history.Goals as goal

pub returns-clause-each : goal.returns-clause-each
returns-clause-each g c k p at = c.if-not-all_stand.ensures refl k p at
