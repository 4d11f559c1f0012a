use Rattle.std.proofs.Common.{◌≡◌, ◌∙◌, ◌==◌, length, true, false, refl, sym, ap, arith}
use Rattle.std.specs.Option.{option_and_then}
use Rattle.std.proofs.lemmas.Result.{err_from_is_err_and}
use Rattle.script.specs.Ops.{is_whole}
use Rattle.script.specs.laws.Ops.{rest-more}
use Rattle.interp.specs.Answer.{Says, answer_map, and_then}
use Rattle.interp.specs.computed.Step.{end_of}
use Rattle.interp.specs.laws.Runs.{run-more, run-ended, outcome-long, outcome-ran}
use Rattle.interp.proofs.verification.run.Goals as goal

pub returns-then-script-gt-MAX_SCRIPT_SIZE : goal.returns-then-script-gt-MAX_SCRIPT_SIZE
returns-then-script-gt-MAX_SCRIPT_SIZE g c = outcome-long _ _ c.args.script.now _ (omega arith)

pub returns-in_err-step : goal.returns-in_err-step
returns-in_err-step g c =
    let passed = err_from_is_err_and c.from_residual.result c.from_residual.ensures.1 in
    rw (passed.1, passed.2) (λ t is.
    outcome-ran _ _ c.args.script.now _ (omega arith)
    ∙ ap (answer_map (option_and_then (end_of (is_whole c.args.script.now)))) (c.loop-op.invariant.same
    ∙ run-more _ _ c.loop-op.ahead.now _ _ c.loop-op.execution c.in-Some.ensures.0 c.in-Some.ensures.1 ∙ ap (and_then _) (c.in_err-step.ensures t is)))

pub returns-then-not-branch : goal.returns-then-not-branch
returns-then-not-branch g c =
    let failed = rw c.if-not-branch.true at c.in_ok-step.ensures in
    outcome-ran _ _ c.args.script.now _ (omega arith)
    ∙ ap (answer_map (option_and_then (end_of (is_whole c.args.script.now)))) (c.loop-op.invariant.same
    ∙ run-more _ _ c.loop-op.ahead.now _ _ c.loop-op.execution c.in-Some.ensures.0 c.in-Some.ensures.1 ∙ ap (and_then _) failed)

pub loop-op-smaller : goal.loop-op-smaller
loop-op-smaller g c = omega (arith, ap length c.in-Some.ensures.0)

pub loop-op-preserved : goal.loop-op-preserved
loop-op-preserved g c =
    let went = rw c.if-not-branch.false at c.in_ok-step.ensures in
    record {
      same = c.loop-op.invariant.same ∙ run-more _ _ c.loop-op.ahead.now _ _ c.loop-op.execution c.in-Some.ensures.0 c.in-Some.ensures.1 ∙ ap (and_then _) went;
      left = sym (rest-more c.loop-op.ahead.now _ _ c.in-Some.ensures.0 c.in-Some.ensures.1) ∙ c.loop-op.invariant.left;
    }

pub returns-then-not-is_empty : goal.returns-then-not-is_empty
returns-then-not-is_empty g c =
    let cut : is_whole c.args.script.now ≡ false = ap (λ r. length r == 0) (sym c.loop-op.invariant.left ∙ c.in_default.ensures.1) ∙ sym c.if-not-is_empty.ensures in
    outcome-ran _ _ c.args.script.now _ (omega arith)
    ∙ rw (c.loop-op.invariant.same ∙ run-ended _ _ c.loop-op.ahead.now c.loop-op.execution c.in_default.ensures.0, cut) refl

pub returns : goal.returns
returns g c =
    let read : is_whole c.args.script.now ≡ true = ap (λ r. length r == 0) (sym c.loop-op.invariant.left ∙ c.in_default.ensures.1) ∙ sym c.if-not-is_empty.ensures in
    outcome-ran _ _ c.args.script.now _ (omega arith)
    ∙ rw (c.loop-op.invariant.same ∙ run-ended _ _ c.loop-op.ahead.now c.loop-op.execution c.in_default.ensures.0, read) (ap Says (sym c.finish.ensures))
