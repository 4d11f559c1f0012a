use Rattle.ffi.specs.Signatures.{valid_in}
use Rattle.ffi.proofs.session.Session.at_first.Goals as goal

pub invariant_of-result : goal.invariant_of-result
invariant_of-result c = ((λ triples agrees. c.requires triples), c.requires (valid_in c.args.signatures))
