use Rattle.std.proofs.Common.{arith}
use Rattle.tree.proofs.Views.{kept, seen_at}
use Rattle.tree.proofs.tree.Tree.seen.Goals as goal

pub index-requires : goal.index-requires
index-requires c =
    let k = kept c.self.invariant c.self.view_is in let r = c.requires in let l = c.self.invariant.same in omega arith

pub returns : goal.returns
returns c =
    seen_at c.self.invariant c.self.view_is c.args.place c.requires c.index.result.now c.index.ensures
