use Rattle.std.proofs.Common.{sym, ◌∙◌}
use Rattle.player.proofs.chainstates.LentChain.new.Goals as goal

pub invariant_of-result : goal.invariant_of-result
invariant_of-result c =
    let start = c.in_ok-core.ensures.follows c.args.table.now in
    (start.0, c.new-coins.ensures ∙ sym start.1)
