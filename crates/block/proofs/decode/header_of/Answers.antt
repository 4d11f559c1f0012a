use Rattle.std.proofs.Common.{arith}
use Rattle.block.proofs.Front.{front_found, front_refused, front_of_block}
use Rattle.block.proofs.decode.header_of.Goals as goal

pub returns-clause-found : goal.returns-clause-found
returns-clause-found c = front_found c.args.bytes.now c.header.result c.header.new.bytes (λ i. omega (arith, c.type_inv.bytes i)) (rw (← c.new.ensures) c.header.ensures)

pub returns-clause-refused : goal.returns-clause-refused
returns-clause-refused c = front_refused c.args.bytes.now c.header.result c.header.new.bytes (λ i. omega (arith, c.type_inv.bytes i)) (rw (← c.new.ensures) c.header.ensures)

pub returns-clause-of_block : goal.returns-clause-of_block
returns-clause-of_block c = front_of_block c.args.bytes.now c.header.result c.header.new.bytes (rw (← c.new.ensures) c.header.ensures)
