use Rattle.std.proofs.Common.{◌∙◌, ap}
use Rattle.interp.specs.computed.NamedFailures.{named}
use Rattle.interp.specs.declared.script_error.ScriptError.TheVariants.{PushSize}
use Rattle.interp.proofs.PushFailure.{push-named}
use Rattle.interp.proofs.execution.Execution.push_or_name.Goals as goal

pub returns-then-not-branch : goal.returns-then-not-branch
returns-then-not-branch c =
    let failed = rw c.if-not-branch.true at c.in_ok-act_push.ensures in
    λ known q after. push-named known q after c.args.number c.args.bytes.now c.args.self.now c.requires ∙ ap (named PushSize) (failed known q after)

pub returns : goal.returns
returns c =
    let went = rw c.if-not-branch.false at c.in_ok-act_push.ensures in
    λ known q after. push-named known q after c.args.number c.args.bytes.now c.args.self.now c.requires ∙ ap (named PushSize) (went known q after)
