use Rattle.std.proofs.Common.{arith}
use Rattle.std.specs.Int.{bit_at}
use Rattle.std.proofs.lemmas.Nat.Bits.{and_pow}
use Rattle.txn.proofs.Flags.{set_bit}
use Rattle.txn.proofs.sequence.is_time.Goals as goal

pub returns : goal.returns
returns c = rw (and_pow c.args.sequence 22) (set_bit (bit_at c.args.sequence 22) 4194303 (omega arith))
