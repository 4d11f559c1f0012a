use Rattle.std.proofs.Common.{refl}
use Rattle.node.proofs.laws.look_ups_are_calls.Goals as goal

pub returns : goal.returns
returns g c = (c.spent.new.self, record { later = c.spent.ensures.later; answer = c.spent.ensures.answer; fault = c.spent.ensures.fault }, refl)
