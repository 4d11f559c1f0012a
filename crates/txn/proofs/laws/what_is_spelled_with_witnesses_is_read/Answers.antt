use Rattle.wire.specs.laws.Reader.{front_law}
use Rattle.txn.specs.WitnessGrammar.{transaction_by}
use Rattle.txn.specs.computed.WitnessReader.{tx_by_at}
use Rattle.txn.specs.laws.WitnessReader.{transaction_by_decides}
use Rattle.txn.proofs.laws.what_is_spelled_with_witnesses_is_read.Goals as goal

pub returns-clause-front : goal.returns-clause-front
returns-clause-front c = λ by a b more ha hb e. front_law (transaction_by by) (tx_by_at by) (transaction_by_decides by) a b more ha hb e

pub returns-clause-read : goal.returns-clause-read
returns-clause-read c = λ by t rest lawful. (transaction_by_decides by).again t rest lawful
