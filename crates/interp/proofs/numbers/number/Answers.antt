use Rattle.std.proofs.Common.{◌∙◌, sym, ap, Some, arith, rules}
use Rattle.std.proofs.lemmas.Int.{to_z-of_z}
use mir.Val.{SFits}
use mir.Syntax.{w64}
use Rattle.interp.proofs.Bounds.{operand_bound}
use Rattle.interp.proofs.numbers.number.Goals as goal

pub returns-clause-above : goal.returns-clause-above
returns-clause-above c =
    let fits : SFits w64 c.in_ok-z.field-0.0 = search rules in
    (operand_bound c.args.bytes.now _ (λ i. omega (arith, c.type_inv.bytes i)) (sym c.in_ok-z.ensures ∙ ap Some (sym (to_z-of_z w64 c.in_ok-z.field-0.0 fits)))).0

pub returns-clause-below : goal.returns-clause-below
returns-clause-below c =
    let fits : SFits w64 c.in_ok-z.field-0.0 = search rules in
    (operand_bound c.args.bytes.now _ (λ i. omega (arith, c.type_inv.bytes i)) (sym c.in_ok-z.ensures ∙ ap Some (sym (to_z-of_z w64 c.in_ok-z.field-0.0 fits)))).1
