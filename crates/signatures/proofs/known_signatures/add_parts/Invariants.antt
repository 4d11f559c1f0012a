use Rattle.std.proofs.Common.{◌≡◌, length}
use Rattle.signatures.specs.inside.Parts.{whole}
use Rattle.signatures.proofs.known_signatures.add_parts.Given as goal

abbrev pub invariant-loop : goal.invariant-loop
invariant-loop l = (whole l.parts.items ≡ whole l.fn.parts.items) × (length l.parts.items ≡ l.counter)
