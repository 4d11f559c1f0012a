use Rattle.wire.specs.laws.Reader.{gives_found, gives_refused, gives_reads, gives_refuses}
use Rattle.txn.specs.Fault.{wire_fault_of}
use Rattle.txn.specs.Grammar.{transaction}
use Rattle.txn.specs.computed.Reader.{tx_at}
use Rattle.txn.specs.laws.Reader.{transaction_decides}
use Rattle.txn.proofs.decode.read.Goals as goal

pub returns-clause-found : goal.returns-clause-found
returns-clause-found c = gives_found wire_fault_of transaction tx_at transaction_decides c.front.result c.args.bytes.now c.front.new.bytes c.front.ensures.bytes c.front.ensures.exact

pub returns-clause-refused : goal.returns-clause-refused
returns-clause-refused c = gives_refused wire_fault_of transaction tx_at transaction_decides c.front.result c.args.bytes.now c.front.new.bytes c.front.ensures.bytes c.front.ensures.exact

pub returns-clause-reads : goal.returns-clause-reads
returns-clause-reads c = gives_reads wire_fault_of transaction tx_at transaction_decides c.front.result c.args.bytes.now c.front.new.bytes c.front.ensures.exact

pub returns-clause-refuses : goal.returns-clause-refuses
returns-clause-refuses c = gives_refuses wire_fault_of transaction tx_at transaction_decides c.front.result c.args.bytes.now c.front.new.bytes c.front.ensures.exact
