use Rattle.std.proofs.Common.{◌∙◌, ap}
use Rattle.interp.specs.computed.Conditions.{first_false}
use Rattle.interp.proofs.FirstFalse.{closed-first}
use Rattle.interp.proofs.conditions.Conditions.close.Goals as goal

pub invariant_of-self : goal.invariant_of-self
invariant_of-self c =
    closed-first c.pop-taken.new.self c.pop-taken.result c.self.inside.first_untaken c.len.result (c.self.invariant ∙ ap first_false c.pop-taken.ensures) c.len.ensures c.if-eq.ensures
