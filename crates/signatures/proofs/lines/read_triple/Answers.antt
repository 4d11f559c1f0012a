use Rattle.std.proofs.Common.{ℕ, List}
use Rattle.signatures.specs.Lines.{StandsFor}
use Rattle.signatures.proofs.lines.read_triple.Goals as goal

pub returns-in_default-2 : goal.returns-in_default-2
returns-in_default-2 c t spells =
    let none : (bytes : List ℕ) → StandsFor c.args.key.now bytes → ⊥ = rw c.in_default-2.is at c.in_ok-key.ensures in
    none t.key spells.0

pub returns-in_default-3 : goal.returns-in_default-3
returns-in_default-3 c t spells =
    let none : (bytes : List ℕ) → StandsFor c.args.signature.now bytes → ⊥ = rw c.in_default-3.is at c.in_ok-signature.ensures in
    none t.signature spells.1
