use Rattle.std.proofs.Common.{arith}
use Rattle.txn.proofs.Lengths.{of_input}
use Rattle.txn.proofs.sizes.input_size.Goals as goal

pub returns : goal.returns
returns c = omega (arith, of_input c.args.input.now)
