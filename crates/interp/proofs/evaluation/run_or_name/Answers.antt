use Rattle.std.proofs.Common.{◌≡◌, ◌∙◌, ◌==◌, length, true, false, refl, sym, ap, arith}
use Rattle.std.proofs.lemmas.Result.{err_from_is_err_and}
use Rattle.script.specs.Ops.{is_whole}
use Rattle.script.specs.laws.Ops.{rest-more}
use Rattle.interp.specs.computed.NamedFailures.{◌>>=◌, or_else, end_named}
use Rattle.interp.specs.declared.script_error.ScriptError.TheVariants.{UnbalancedConditional}
use Rattle.interp.proofs.NamedRun.{eval-long, eval-ran, named-more, named-ended}
use Rattle.interp.proofs.evaluation.run_or_name.Goals as goal

pub returns-then-script-gt-MAX_SCRIPT_SIZE : goal.returns-then-script-gt-MAX_SCRIPT_SIZE
returns-then-script-gt-MAX_SCRIPT_SIZE g c = eval-long _ _ c.args.script.now _ (omega arith)

pub returns-in_err-name : goal.returns-in_err-name
returns-in_err-name g c =
    let passed = err_from_is_err_and c.from_residual.result c.from_residual.ensures.1 in
    rw (passed.1, passed.2) (λ t is.
    eval-ran _ _ c.args.script.now _ (omega arith)
    ∙ ap (λ a. a >>= end_named (is_whole c.args.script.now)) (c.loop-op.invariant.same
    ∙ named-more _ _ c.loop-op.ahead.now _ _ c.loop-op.execution _ c.in-Some.ensures.0 c.in-Some.ensures.1 (c.in_err-name.ensures t is)))

pub returns-in-Some-2 : goal.returns-in-Some-2
returns-in-Some-2 g c =
    let failed = rw c.in-Some-2.is at c.in_ok-name.ensures in
    eval-ran _ _ c.args.script.now _ (omega arith)
    ∙ ap (λ a. a >>= end_named (is_whole c.args.script.now)) (c.loop-op.invariant.same
    ∙ named-more _ _ c.loop-op.ahead.now _ _ c.loop-op.execution _ c.in-Some.ensures.0 c.in-Some.ensures.1 failed)

pub loop-op-preserved : goal.loop-op-preserved
loop-op-preserved g c =
    let went = rw c.in_default-2.is at c.in_ok-name.ensures in
    record {
      same = c.loop-op.invariant.same ∙ named-more _ _ c.loop-op.ahead.now _ _ c.loop-op.execution _ c.in-Some.ensures.0 c.in-Some.ensures.1 went;
      left = sym (rest-more c.loop-op.ahead.now _ _ c.in-Some.ensures.0 c.in-Some.ensures.1) ∙ c.loop-op.invariant.left;
    }

pub returns-then-not-is_empty : goal.returns-then-not-is_empty
returns-then-not-is_empty g c =
    let cut : is_whole c.args.script.now ≡ false = ap (λ r. length r == 0) (sym c.loop-op.invariant.left ∙ c.in_default.ensures.1) ∙ sym c.if-not-is_empty.ensures in
    eval-ran _ _ c.args.script.now _ (omega arith)
    ∙ rw (c.loop-op.invariant.same ∙ named-ended _ _ c.loop-op.ahead.now c.loop-op.execution c.in_default.ensures.0, cut) refl

pub returns-in-None : goal.returns-in-None
returns-in-None g c =
    let read : is_whole c.args.script.now ≡ true = ap (λ r. length r == 0) (sym c.loop-op.invariant.left ∙ c.in_default.ensures.1) ∙ sym c.if-not-is_empty.ensures in
    eval-ran _ _ c.args.script.now _ (omega arith)
    ∙ rw (c.loop-op.invariant.same ∙ named-ended _ _ c.loop-op.ahead.now c.loop-op.execution c.in_default.ensures.0, read) (ap (or_else UnbalancedConditional) (sym c.finish.ensures ∙ c.in-None.is))

pub returns-in-Some-finish : goal.returns-in-Some-finish
returns-in-Some-finish g c =
    let read : is_whole c.args.script.now ≡ true = ap (λ r. length r == 0) (sym c.loop-op.invariant.left ∙ c.in_default.ensures.1) ∙ sym c.if-not-is_empty.ensures in
    eval-ran _ _ c.args.script.now _ (omega arith)
    ∙ rw (c.loop-op.invariant.same ∙ named-ended _ _ c.loop-op.ahead.now c.loop-op.execution c.in_default.ensures.0, read) (ap (or_else UnbalancedConditional) (sym c.finish.ensures ∙ c.in-Some-finish.is))
