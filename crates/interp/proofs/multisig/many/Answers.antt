use Rattle.std.proofs.Common.{◌≡◌, ◌∙◌, sym, ap, refl, None, Some, arith}
use borrow.Author.Tests.{lt-ltb, le-ltb}
use Rattle.interp.specs.Elements.{natural_of}
use Rattle.interp.proofs.Counts.{many_past, many_there}
use Rattle.interp.proofs.multisig.many.Goals as goal

pub returns-then-at-len-clause-value : goal.returns-then-at-len-clause-value
returns-then-at-len-clause-value c = sym (many_past c.args.most c.args.at c.args.stack.now (omega arith))

pub returns-in_err-n-clause-value : goal.returns-in_err-n-clause-value
returns-in_err-n-clause-value c =
    let is : natural_of 4 c.at.result.now ≡ None = ap (natural_of 4) (sym c.as_slice.ensures) ∙ sym c.natural.ensures ∙ c.in_err-n.was in
    c.from_residual.ensures ∙ sym (many_there c.args.most c.args.at c.args.stack.now c.at.result.now None c.at.ensures is)

pub returns-then-n-most-clause-value : goal.returns-then-n-most-clause-value
returns-then-n-most-clause-value c =
    let is : natural_of 4 c.at.result.now ≡ Some c.in_ok-n.n = ap (natural_of 4) (sym c.as_slice.ensures) ∙ sym c.natural.ensures ∙ c.in_ok-n.was in
    sym (many_there c.args.most c.args.at c.args.stack.now c.at.result.now (Some c.in_ok-n.n) c.at.ensures is ∙ rw (lt-ltb c.args.most c.in_ok-n.n c.if-n-most.true) refl)

pub returns-clause-value : goal.returns-clause-value
returns-clause-value c =
    let is : natural_of 4 c.at.result.now ≡ Some c.in_ok-n.n = ap (natural_of 4) (sym c.as_slice.ensures) ∙ sym c.natural.ensures ∙ c.in_ok-n.was in
    sym (many_there c.args.most c.args.at c.args.stack.now c.at.result.now (Some c.in_ok-n.n) c.at.ensures is ∙ rw (le-ltb c.args.most c.in_ok-n.n c.if-n-most.false) refl)
