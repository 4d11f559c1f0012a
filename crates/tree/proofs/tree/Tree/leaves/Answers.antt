use Rattle.std.proofs.Common.{arith}
use Rattle.tree.proofs.Views.{kept, leaves_at}
use Rattle.tree.proofs.tree.Tree.leaves.Goals as goal

pub returns-clause-leaves : goal.returns-clause-leaves
returns-clause-leaves c = leaves_at c.self.invariant c.self.view_is

pub returns-clause-room : goal.returns-clause-room
returns-clause-room c = let k = kept c.self.invariant c.self.view_is in let r = c.self.invariant.room in omega arith
