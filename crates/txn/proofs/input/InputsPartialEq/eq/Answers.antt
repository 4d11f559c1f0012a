use Rattle.std.proofs.Common.{◌≡◌, ◌↔◌, IsTrue, Bool, ◌&&◌, sym, ap, subst, ◌∙◌}
use lib.Pointwise.{pointwise}
use Rattle.txn.specs.Equality.{same_witness, same_inputs}
use Rattle.txn.specs.laws.Equality.{same_inputs-decides}
use Rattle.txn.proofs.input.InputsPartialEq.eq.Goals as goal

pub returns-then-eq-clause-equal : goal.returns-then-eq-clause-equal
returns-then-eq-clause-equal c =
    let a = c.args.self.now in
    let b = c.args.other.now in
    let same : c.eq-then-eq.result ≡ same_inputs a b = c.eq-then-eq.ensures.each ∙ ap (λ (first : Bool). first && pointwise same_witness a.witnesses b.witnesses) (sym c.if-eq.true ∙ c.eq.ensures.each) in
    subst (λ (found : Bool). IsTrue found ↔ (a ≡ b)) (sym same) (same_inputs-decides a b)
