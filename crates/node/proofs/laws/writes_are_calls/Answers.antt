use Rattle.std.proofs.Common.{refl}
use Rattle.node.proofs.laws.writes_are_calls.Goals as goal

pub returns : goal.returns
returns g c = (
  c.submit.new.self,
  record { later = c.submit.ensures.later; answer = c.submit.ensures.answer; fault = c.submit.ensures.fault },
  (
    c.invalidate.new.self,
    record { later = c.invalidate.ensures.later; answer = c.invalidate.ensures.answer; fault = c.invalidate.ensures.fault },
    (
      c.reconsider.new.self,
      record { later = c.reconsider.ensures.later; answer = c.reconsider.ensures.answer; fault = c.reconsider.ensures.fault },
      (
        c.precious.new.self,
        record { later = c.precious.ensures.later; answer = c.precious.ensures.answer; fault = c.precious.ensures.fault },
        refl,
      ),
    ),
  ),
)
