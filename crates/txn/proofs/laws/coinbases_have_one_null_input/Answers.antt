use Rattle.txn.specs.laws.Check.{is_coinbase-means}
use Rattle.txn.proofs.laws.coinbases_have_one_null_input.Goals as goal

pub returns : goal.returns
returns c = is_coinbase-means
