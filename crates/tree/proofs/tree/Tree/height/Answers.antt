use Rattle.std.proofs.Common.{arith}
use Rattle.tree.specs.laws.Parents.{height-place}
use Rattle.tree.proofs.Views.{kept, node_at}
use Rattle.tree.proofs.tree.Tree.height.Goals as goal

pub index-requires : goal.index-requires
index-requires c =
    let k = kept c.self.invariant c.self.view_is in let r = c.requires in omega arith

pub returns-clause-value : goal.returns-clause-value
returns-clause-value c =
    (node_at c.self.invariant c.self.view_is c.args.place c.requires c.index.result.now c.index.ensures).height

pub returns-clause-few : goal.returns-clause-few
returns-clause-few c =
    let k = kept c.self.invariant c.self.view_is in
    let r = c.self.invariant.room in
    let v = (node_at c.self.invariant c.self.view_is c.args.place c.requires c.index.result.now c.index.ensures).height in
    let h = height-place c.args.self.now.blocks c.args.place c.args.place (omega arith) c.requires in
    omega arith
