use Rattle.std.proofs.Common.{◌∙◌}
use Rattle.signatures.specs.laws.Shape.{strict-empty, strict-some}
use Rattle.signatures.proofs.shape.der_shape.Goals as goal

pub returns-then-is_empty-clause-test : goal.returns-then-is_empty-clause-test
returns-then-is_empty-clause-test c = c.if-is_empty.true ∙ strict-empty c.args.bytes.now c.if-is_empty.ensures

pub returns-else-is_empty-clause-test : goal.returns-else-is_empty-clause-test
returns-else-is_empty-clause-test c =
    strict-some c.args.bytes.now c.is_signature.result c.if-is_empty.ensures c.is_signature.ensures.0 c.is_signature.ensures.1
