use Rattle.std.proofs.Common.{refl}
use Rattle.node.proofs.laws.reads_are_calls.Goals as goal

pub returns : goal.returns
returns g c = (
  c.gettxout.new.self,
  record { later = c.gettxout.ensures.later; answer = c.gettxout.ensures.answer; fault = c.gettxout.ensures.fault },
  (
    c.getbestblockhash.new.self,
    record { later = c.getbestblockhash.ensures.later; answer = c.getbestblockhash.ensures.answer; fault = c.getbestblockhash.ensures.fault },
    (
      c.getchaintips.new.self,
      record { later = c.getchaintips.ensures.later; answer = c.getchaintips.ensures.answer; fault = c.getchaintips.ensures.fault },
      (
        c.journal.new.self,
        record { later = c.journal.ensures.later; answer = c.journal.ensures.answer; fault = c.journal.ensures.fault },
        refl,
      ),
    ),
  ),
)
