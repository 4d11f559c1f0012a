use Rattle.std.proofs.Common.{List, subst}
use Rattle.std.specs.List.Sorted.{IsPermutation}
use Rattle.tree.specs.declared.tip_order.Top.{Top}
use Rattle.tree.specs.laws.Tops.{sorted_tips}
use Rattle.tree.proofs.tips.tops.Goals as goal

pub returns : goal.returns
returns c =
    sorted_tips c.args.tree.now.blocks c.leaves.ensures.room c.leaves.result.now.keys c.args.best c.sort_unstable.new.self.items c.leaves.ensures.leaves c.requires
    (subst (λ (l : List Top). IsPermutation l c.sort_unstable.new.self.items) c.in_ok-tops.ensures c.sort_unstable.ensures.permutation)
    c.sort_unstable.ensures.sorted
