use Rattle.std.proofs.Common.{◌≡◌, take, map}
use Rattle.script.specs.Removal.{bytes_of}
use Rattle.interp.specs.Signatures.{push_of}
use Rattle.interp.proofs.signature_check.pushes_of.Given as goal

abbrev pub invariant-loop-signature : goal.invariant-loop-signature
invariant-loop-signature l = l.ops.items ≡ map push_of (bytes_of (take l.signature-index l.signatures))
