use Rattle.std.proofs.Common.{◌∙◌, sym, ap}
use Rattle.std.proofs.lemmas.Result.{err_from_is_err_and}
use Rattle.interp.specs.Answer.{Says, answer_map}
use Rattle.interp.specs.inside.RunningContext.{running_of}
use Rattle.interp.specs.Stack.{Stack}
use Rattle.interp.specs.Witness.{is_clean}
use Rattle.interp.specs.computed.Step.{outcome}
use Rattle.interp.proofs.Witnesses.{execute-long, execute-ran}
use Rattle.interp.proofs.witness.runs_clean.Goals as goal

pub returns-then-is_any_long : goal.returns-then-is_any_long
returns-then-is_any_long g c = execute-long _ _ c.args.script.now c.args.strings.now (sym c.is_any_long.ensures ∙ c.if-is_any_long.true)

pub returns-in_err-end : goal.returns-in_err-end
returns-in_err-end g c =
    let passed = err_from_is_err_and c.from_residual-in_err-end.result c.from_residual-in_err-end.ensures.1 in
    rw (passed.1, passed.2) (λ t is.
    execute-ran _ _ c.args.script.now c.args.strings.now (sym c.is_any_long.ensures ∙ c.if-is_any_long.false)
    ∙ ap (answer_map is_clean) (ap (λ (stack : Stack). outcome (g.K.KnowsSignatures.known c.args.known.now) (running_of c.args.running.now) c.args.script.now stack) (sym c.in_ok-stack_of.ensures) ∙ c.in_err-end.ensures t is))

pub returns : goal.returns
returns g c =
    execute-ran _ _ c.args.script.now c.args.strings.now (sym c.is_any_long.ensures ∙ c.if-is_any_long.false)
    ∙ ap (answer_map is_clean)
    (ap (λ (stack : Stack). outcome (g.K.KnowsSignatures.known c.args.known.now) (running_of c.args.running.now) c.args.script.now stack) (sym c.in_ok-stack_of.ensures)
    ∙ c.in_ok-end.ensures ∙ ap Says c.in-Some.is)
    ∙ ap Says (sym c.is_clean.ensures)
