use Rattle.std.proofs.Common.{◌∙◌, ◌++◌, ap, sym, map, arith}
use Rattle.std.specs.List.{concat}
use Rattle.script.proofs.Parts.{goes-taken, goes-kept, goes-end, concat-push}
use Rattle.script.proofs.removal.without.Goals as goal

pub loop-op-preserved-then-is_among : goal.loop-op-preserved-then-is_among
loop-op-preserved-then-is_among c =
    let parts = ap (λ items. concat (map (λ part. part.now) items)) c.in_ok-push.ensures.items
    ∙ concat-push (λ part. part.now) c.loop-op.parts.items _ ∙ ap (λ part. concat (map (λ part. part.now) c.loop-op.parts.items) ++ part) c.split_at.ensures.front in
    goes-taken _ _ _ _ _ _ _ _ _ _ c.loop-op.invariant c.in-Some.ensures.steps c.in-Some.ensures.front (sym c.is_among.ensures ∙ c.if-is_among.true) c.rest-ahead.ensures parts

pub overflow_add-kept : goal.overflow_add-kept
overflow_add-kept c =
    let g = goes-kept _ _ _ _ _ _ _ _ c.loop-op.invariant c.in-Some.ensures.steps c.in-Some.ensures.front (sym c.is_among.ensures ∙ c.if-is_among.false) in
    omega (arith, g.inside, g.shorter)

pub loop-op-preserved : goal.loop-op-preserved
loop-op-preserved c =
    goes-kept _ _ _ _ _ _ _ _ c.loop-op.invariant c.in-Some.ensures.steps c.in-Some.ensures.front (sym c.is_among.ensures ∙ c.if-is_among.false)

pub returns : goal.returns
returns c =
    ap (λ items. concat (map (λ part. part.now) items)) c.in_ok-push-2.ensures.items
    ∙ concat-push (λ part. part.now) c.loop-op.parts.items _ ∙ goes-end _ _ _ _ _ _ c.loop-op.invariant c.in_default.ensures.steps.0
