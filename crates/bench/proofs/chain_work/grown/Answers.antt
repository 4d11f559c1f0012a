use Rattle.bench.proofs.chain_work.grown.Goals as goal

pub grown_on-requires : goal.grown_on-requires
grown_on-requires g c = c.in_ok-chain.ensures.is_chainstate c.new-table.result
