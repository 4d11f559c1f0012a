use Rattle.std.proofs.Common.{arith}
use Rattle.tree.proofs.Views.{kept}
use Rattle.tree.proofs.tree.Tree.len.Goals as goal

pub returns-clause-count : goal.returns-clause-count
returns-clause-count c = let e = c.len.ensures in let k = kept c.self.invariant c.self.view_is in omega arith

pub returns-clause-room : goal.returns-clause-room
returns-clause-room c = let k = kept c.self.invariant c.self.view_is in let r = c.self.invariant.room in omega arith
