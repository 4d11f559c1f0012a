use Rattle.std.proofs.Common.{refl}
use Rattle.node.proofs.laws.lists_of_coins_are_calls.Goals as goal

pub returns : goal.returns
returns g c = (
  c.coins_from.new.self,
  record { later = c.coins_from.ensures.later; answer = c.coins_from.ensures.answer; fault = c.coins_from.ensures.fault },
  refl,
)
