use Rattle.demo.proofs.desk.Desk.new.Goals as goal

-- src/desk.rt:42:9
pub invariant_of-result : goal.invariant_of-result
invariant_of-result c = c.in_ok-chain.ensures.is_chainstate c.args.table.now
