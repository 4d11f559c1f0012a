use Rattle.serving.proofs.params.Params.above.Goals as goal
use Rattle.std.proofs.Common.{◌∙◌}
use Rattle.json.specs.Value.{value_view}
use Rattle.serving.specs.inside.Given.{given}
use Rattle.serving.proofs.Refusals.{not-above, some-is-not-none}

pub returns-in-Err-clause-err : goal.returns-in-Err-clause-err
returns-in-Err-clause-err c =
    (c.in-Err.ensures.err.0, not-above (given c.args.self.now) (λ e. some-is-not-none c.get.result (λ v. value_view v.now) c.if-is_none.ensures (c.get.ensures ∙ e)) c.in-Err.ensures.err.1)
