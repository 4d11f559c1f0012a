-- The fault of a block that a fault of its parts is.
use Rattle.wire.specs.declared.fault.WireFault.{WireFault}
use Rattle.wire.specs.declared.fault.WireFault.TheVariants as wire
use Rattle.txn.specs.declared.fault.TxFault.{TxFault}
use Rattle.txn.specs.declared.fault.TxFault.TheVariants as txn
use Rattle.block.specs.declared.fault.ReadFault.{ReadFault}
use Rattle.block.specs.declared.fault.ReadFault.TheVariants.{Short, LongForm, TooLarge, Memory}

abbrev pub read_fault_of : TxFault → ReadFault
read_fault_of txn.Short = Short
read_fault_of txn.LongForm = LongForm
read_fault_of txn.TooLarge = TooLarge
read_fault_of txn.Memory = Memory

abbrev pub wire_read_fault_of : WireFault → ReadFault
wire_read_fault_of wire.Short = Short
wire_read_fault_of wire.LongForm = LongForm
wire_read_fault_of wire.TooLarge = TooLarge
