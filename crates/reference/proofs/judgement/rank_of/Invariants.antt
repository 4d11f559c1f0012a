use Rattle.std.proofs.Common.{◌≡◌, reverse, take}
use Rattle.tree.specs.State.{rank_in}
use Rattle.reference.proofs.judgement.rank_of.Given as goal

abbrev pub invariant-loop-index : goal.invariant-loop-index
invariant-loop-index l = l.rank ≡ rank_in (reverse (take l.index l.calls)) l.place
