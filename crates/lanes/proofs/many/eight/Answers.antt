use Rattle.std.proofs.Common.{arith}
use Rattle.lanes.specs.inside.Messages.{message_at}
use Rattle.lanes.proofs.InOrder.{eight_ids}
use Rattle.lanes.proofs.many.eight.Goals as goal

pub returns-then-is_even : goal.returns-then-is_even
returns-then-is_even c =
    let messages = c.args.messages.now in
    eight_ids messages c.hashed_again.result c.requires (omega arith)
    (λ l lt d. c.hashed_again.ensures l lt (message_at messages l) (c.hash_values.ensures l lt) d)
