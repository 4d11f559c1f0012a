use Rattle.connect.specs.laws.Scripts.{fault-found}
use Rattle.connect.proofs.laws.the_fault_is_computed.Goals as goal

pub returns : goal.returns
returns c = λ s m txs triples found. fault-found s m txs triples found
