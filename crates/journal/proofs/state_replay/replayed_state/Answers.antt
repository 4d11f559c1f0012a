use Rattle.journal.proofs.state_replay.replayed_state.Goals as goal

pub run-requires : goal.run-requires
run-requires c = record { is_chainstate = c.in_ok-chain.ensures.is_chainstate c.args.table.now }
