use Rattle.wire.specs.laws.Reader.{gives_found, gives_refused, gives_reads, gives_refuses}
use Rattle.txn.specs.Fault.{wire_fault_of}
use Rattle.txn.specs.WitnessGrammar.{transaction_by}
use Rattle.txn.specs.computed.WitnessReader.{tx_by_at}
use Rattle.txn.specs.laws.WitnessReader.{transaction_by_decides}
use Rattle.txn.proofs.witness_decode.read_by.Goals as goal

pub returns-clause-found : goal.returns-clause-found
returns-clause-found c = gives_found wire_fault_of (transaction_by c.args.has_flag) (tx_by_at c.args.has_flag) (transaction_by_decides c.args.has_flag) c.front_by.result c.args.bytes.now c.front_by.new.bytes c.front_by.ensures.bytes c.front_by.ensures.exact

pub returns-clause-refused : goal.returns-clause-refused
returns-clause-refused c = gives_refused wire_fault_of (transaction_by c.args.has_flag) (tx_by_at c.args.has_flag) (transaction_by_decides c.args.has_flag) c.front_by.result c.args.bytes.now c.front_by.new.bytes c.front_by.ensures.bytes c.front_by.ensures.exact

pub returns-clause-reads : goal.returns-clause-reads
returns-clause-reads c = gives_reads wire_fault_of (transaction_by c.args.has_flag) (tx_by_at c.args.has_flag) (transaction_by_decides c.args.has_flag) c.front_by.result c.args.bytes.now c.front_by.new.bytes c.front_by.ensures.exact

pub returns-clause-refuses : goal.returns-clause-refuses
returns-clause-refuses c = gives_refuses wire_fault_of (transaction_by c.args.has_flag) (tx_by_at c.args.has_flag) (transaction_by_decides c.args.has_flag) c.front_by.result c.args.bytes.now c.front_by.new.bytes c.front_by.ensures.exact
