use Rattle.std.proofs.Common.{◌∙◌, arith}
use Rattle.std.proofs.lemmas.List.{length-set}
use Rattle.lanes.proofs.InOrder.{one_more}
use Rattle.lanes.proofs.many.one_by_one.Goals as goal

pub messages-preserved : goal.messages-preserved
messages-preserved c = (
  length-set c.messages.out c.messages.k _ ∙ c.messages.invariant.0,
  one_more c.args.messages.now c.messages.out c.messages.k _ _ c.messages.invariant.0 (omega (arith, c.messages-test.true)) c.messages.invariant.1
      (λ i. record { 0 = c.double_sha.ensures i }),
)
