use Rattle.std.proofs.Common.{ap, sym, ◌∙◌, ◌+◌, arith}
use Rattle.script.specs.Ops.{ops}
use Rattle.script.specs.Signatures.{sigops_after, op_sigops}
use Rattle.script.proofs.Sums.{sigops_start, sigops_bound, counted_next}
use Rattle.script.proofs.Checks.{no_checks}
use Rattle.script.proofs.signatures.sigops.Goals as goal

pub returns-then-not-has_checks : goal.returns-then-not-has_checks
returns-then-not-has_checks c = sym (no_checks c.args.counting c.args.script.now (sym c.has_checks.ensures ∙ c.if-not-has_checks.true))

pub loop-op-init : goal.loop-op-init
loop-op-init c =
    ap (λ s. 0 + sigops_after c.args.counting 255 (ops s)) (c.into_iter-op-iterator.ensures.into_iter_gives ∙ c.new-op-items.ensures)
    ∙ sigops_start c.args.counting c.args.script.now

pub overflow_add-total : goal.overflow_add-total
overflow_add-total c =
    let below = sigops_bound c.args.counting c.args.script.now in
    let sum = counted_next c.args.counting c.loop-op.before c.loop-op.total _ _ _ _ c.loop-op.invariant c.in-Some.ensures.steps in
    let one = ap (op_sigops c.args.counting c.loop-op.before) c.number-number.ensures in
    omega arith
