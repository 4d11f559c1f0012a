use Rattle.std.proofs.Common.{◌∙◌, ap, sym, subst}
use Rattle.interp.specs.inside.RunningContext.{running_of}
use Rattle.interp.specs.Row.{Row}
use Rattle.interp.specs.inside.Outcomes.{GoesNamed}
use Rattle.interp.specs.computed.OpcodeRow.{meaning}
use Rattle.interp.specs.computed.NamedFailures.{executed}
use Rattle.interp.proofs.execution.Execution.execute_or_name.Goals as goal

pub returns-in-TestVerify : goal.returns-in-TestVerify
returns-in-TestVerify g c =
    let Of : Row → Type 0 = λ row. GoesNamed c.verify_or_name.result (executed (g.K.KnowsSignatures.known c.args.known.now) (running_of c.args.running.now) c.args.after.now c.args.number row c.args.self.now) c.verify_or_name.new.self in
    subst Of (sym (ap meaning c.in-TestVerify.is) ∙ c.op_of-op.ensures) (c.verify_or_name.ensures c.args.after.now)

pub returns-in-Test : goal.returns-in-Test
returns-in-Test g c =
    let Of : Row → Type 0 = λ row. GoesNamed c.test_or_name.result (executed (g.K.KnowsSignatures.known c.args.known.now) (running_of c.args.running.now) c.args.after.now c.args.number row c.args.self.now) c.test_or_name.new.self in
    subst Of (sym (ap meaning c.in-Test.is) ∙ c.op_of-op.ensures) c.test_or_name.ensures
