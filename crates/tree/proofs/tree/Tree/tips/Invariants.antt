use Rattle.std.proofs.Common.{◌≡◌, map, take}
use Rattle.tree.specs.Names.{names}
use Rattle.tree.specs.Tips.{tip_of_id, tip}
use Rattle.tree.proofs.tree.Tree.tips.Given as goal

abbrev pub invariant-loop-top : goal.invariant-loop-top
invariant-loop-top l = l.list.items ≡ map (λ x. tip_of_id (tip names l.self l.best x.place)) (take l.top-index l.top-items)
