use Rattle.txn.specs.laws.Reader.{transaction_decides}
use Rattle.txn.proofs.laws.what_is_spelled_is_read.Goals as goal

pub returns : goal.returns
returns c = λ t rest lawful. transaction_decides.again t rest lawful
