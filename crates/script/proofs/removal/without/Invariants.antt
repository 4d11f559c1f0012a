use Rattle.std.proofs.Common.{length, map}
use Rattle.std.specs.List.{concat}
use Rattle.script.specs.Ops.{ops}
use Rattle.script.proofs.Parts.{Goes}
use Rattle.script.proofs.removal.without.Given as goal

abbrev pub invariant-loop-op : goal.invariant-loop-op
invariant-loop-op l =
    Goes (map (λ piece. piece.now) l.pieces) l.script l.ahead l.ops (concat (map (λ part. part.now) l.parts.items)) l.kept

abbrev pub decreases-loop-op : goal.decreases-loop-op
decreases-loop-op l = length (ops l.ops)
