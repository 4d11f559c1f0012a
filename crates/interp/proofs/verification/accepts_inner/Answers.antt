use Rattle.std.proofs.Common.{◌∙◌, sym}
use Rattle.interp.proofs.Inputs.{inner-empty}
use Rattle.interp.proofs.verification.accepts_inner.Goals as goal

pub returns-then-len-eq0 : goal.returns-then-len-eq0
returns-then-len-eq0 g c = inner-empty _ _ c.args.script.now c.args.left (sym c.len.ensures ∙ c.if-len-eq0.true)
