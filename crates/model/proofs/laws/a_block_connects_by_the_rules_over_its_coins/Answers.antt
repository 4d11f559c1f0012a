use Rattle.std.proofs.Common.{refl}
use Rattle.connect.specs.laws.Scripts.{fault-found}
use Rattle.model.specs.Replay.{replay}
use Rattle.model.specs.Regtest.{setting_on, ledger, regtest}
use Rattle.model.proofs.laws.a_block_connects_by_the_rules_over_its_coins.Goals as goal

pub returns : goal.returns
returns g = λ params triples branch b. (fault-found (setting_on params branch) (replay ledger branch) b.txs triples ((regtest params triples).connect_fault branch b)).1 refl
