use Rattle.std.proofs.Common.{refl}
use Rattle.node.proofs.laws.dry_runs_are_calls.Goals as goal

pub returns : goal.returns
returns g c = (c.judge.new.self, record { later = c.judge.ensures.later; answer = c.judge.ensures.answer; fault = c.judge.ensures.fault }, refl)
