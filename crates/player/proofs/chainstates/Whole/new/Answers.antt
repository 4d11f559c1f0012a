use Rattle.player.proofs.chainstates.Whole.new.Goals as goal

pub invariant_of-result : goal.invariant_of-result
invariant_of-result c = c.in_ok-chain.ensures.is_chainstate c.args.table.now
