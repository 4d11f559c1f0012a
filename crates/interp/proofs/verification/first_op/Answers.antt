use Rattle.std.proofs.Common.{◌∙◌, ◌∷◌, ◌++◌, sym, ap}
use Rattle.script.specs.Ops.{ops, rest}
use Rattle.interp.proofs.Opcodes.{none-first, alone-first}
use Rattle.interp.proofs.verification.first_op.Goals as goal

pub returns : goal.returns
returns c = (
  ap ops (sym c.new-ops.ensures) ∙ c.in_ok-op.ensures.steps ∙ ap (λ more. c.in_ok-op.op.now ∷ ops more) (sym c.rest.ensures),
  sym c.new-ops.ensures ∙ c.in_ok-op.ensures.front ∙ ap (λ more. c.in_ok-op.op.now ++ more) (sym c.rest.ensures),
)

pub returns-in_err-op : goal.returns-in_err-op
returns-in_err-op c =
    rw c.from_residual-in_err-op.ensures
    (ap ops (sym c.new-ops.ensures) ∙ c.in_err-op.ensures.steps.0, ap rest (sym c.new-ops.ensures) ∙ sym c.in_err-op.ensures.ended.0 ∙ c.new-ops.ensures)

pub returns-in_err-number : goal.returns-in_err-number
returns-in_err-number c = rw c.from_residual.ensures (none-first c.args.script.now c.in_err-number.ensures.cases)

pub returns-then-number-gt-OP_PUSHDATA4 : goal.returns-then-number-gt-OP_PUSHDATA4
returns-then-number-gt-OP_PUSHDATA4 c =
    alone-first c.args.script.now c.in_ok-number.number.now c.in_ok-number.after.now c.in_ok-number.ensures.cases.0 c.if-number-gt-OP_PUSHDATA4.true
