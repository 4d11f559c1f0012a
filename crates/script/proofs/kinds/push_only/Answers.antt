use Rattle.std.proofs.Common.{sym, ap, ◌∙◌, length, ◌==◌, arith}
use Rattle.script.proofs.PushOnly.{push_only-above, push_only-more, push_only-end}
use Rattle.script.proofs.kinds.push_only.Goals as goal

pub returns-then-number-gt-OP_16 : goal.returns-then-number-gt-OP_16
returns-then-number-gt-OP_16 c =
    sym (sym c.loop-op.invariant ∙ push_only-above _ _ _ c.in-Some.ensures.steps (omega arith))

pub loop-op-preserved : goal.loop-op-preserved
loop-op-preserved c =
    push_only-more _ _ _ c.in-Some.ensures.steps c.in-Some.ensures.front (omega arith) ∙ c.loop-op.invariant

pub returns : goal.returns
returns c =
    c.is_empty.ensures ∙ ap (λ left. length left == 0) (c.rest.ensures ∙ c.in_default.ensures.ended.1)
    ∙ sym (push_only-end _ c.in_default.ensures.steps.0) ∙ c.loop-op.invariant
