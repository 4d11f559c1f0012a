use Rattle.std.proofs.Common.{ap}
use Rattle.block.specs.declared.block.Block.{Block}
use Rattle.model.specs.Submission.{Outcome}
use Rattle.activate.proofs.core_state.Core.judge_over.Goals as goal

pub returns-clause-reply : goal.returns-clause-reply
returns-clause-reply g c triples agrees = ap (λ (o : Outcome Block). o.1) (c.in_ok-prepared.ensures.prepared triples agrees).outcome_is
