use Rattle.std.proofs.Common.{ap, ◌∙◌, fold, []}
use Rattle.script.specs.Op.{pushed_of}
use Rattle.script.specs.Ops.{ops}
use Rattle.script.specs.Signatures.{last_pushed}
use Rattle.script.proofs.signatures.last_pushed.Goals as goal

pub loop-op-init : goal.loop-op-init
unfolding last_pushed
loop-op-init c =
    ap (λ s. fold (λ _ op. pushed_of op) [] (ops s)) (c.into_iter-op-iterator.ensures.into_iter_gives ∙ c.new-op-items.ensures)
