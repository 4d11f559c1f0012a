use Rattle.txn.specs.Grammar.{transaction}
use Rattle.txn.specs.computed.Reader.{tx_at}
use Rattle.txn.specs.laws.Reader.{transaction_decides}
use Rattle.block.proofs.BlockBytes.{read-spelled}
use Rattle.block.proofs.laws.a_transaction_that_is_read_is_spelled.Goals as goal

pub returns : goal.returns
returns c = λ bytes rest t fits read. read-spelled transaction tx_at transaction_decides bytes rest t fits read
