use Rattle.connect.specs.laws.AtTable.{at_table}
use Rattle.activate.specs.CoreState.{IsChainstate}
use Rattle.demo.proofs.desk.Desk.step.Goals as goal

pub step-requires : goal.step-requires
step-requires c = record { is_chainstate = at_table c.self.inside.table.now (IsChainstate c.self.inside.chain) c.self.invariant }
