use Rattle.std.proofs.Common.{◌≡◌, take}
use Rattle.tree.specs.Branches.{has, places}
use Rattle.tree.specs.State.{union_where}
use Rattle.activate.proofs.try_flags.see_all.Given as goal

abbrev pub invariant-loop-place : goal.invariant-loop-place
invariant-loop-place g l =
    let s = g.M.Marking.state l.fn.tree in
    g.M.Marking.state l.tree ≡ record s { seen = union_where (places s.blocks) s.seen (λ x. has (take l.place-index l.found) x) }
