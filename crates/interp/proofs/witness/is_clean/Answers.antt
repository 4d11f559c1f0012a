use Rattle.std.proofs.Common.{◌∙◌, sym}
use Rattle.interp.proofs.Witnesses.{clean-one, clean-not}
use Rattle.interp.proofs.witness.is_clean.Goals as goal

pub returns-then-len-ne1 : goal.returns-then-len-ne1
returns-then-len-ne1 c = sym (clean-not c.args.end.now (λ one. c.if-len-ne1.true (c.len.ensures ∙ one)))

pub returns : goal.returns
returns c = c.is_true.ensures ∙ sym (clean-one c.args.end.now c.at.result.now (sym c.len.ensures ∙ c.if-len-ne1.false) c.at.ensures)
