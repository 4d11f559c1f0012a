-- By the size, from which there is room for more.
use Rattle.std.proofs.Common.{arith}
use Rattle.std.proofs.lemmas.Bool.Decides.{nat_tests}
use Rattle.ffi.proofs.Digits.{scaled_at_33, scaled_at_34, scaled_large, scaled_small, scaled_zero}
use Rattle.ffi.proofs.bits.is_above.Goals as goal

pub returns-in-33 : goal.returns-in-33
returns-in-33 c = rw (c.in-33.is, scaled_at_33 c.args.word) (grind (arith, nat_tests))

pub returns-in-34 : goal.returns-in-34
returns-in-34 c = rw (c.in-34.is, scaled_at_34 c.args.word) (grind (arith, nat_tests))

pub returns-in-0-to-32 : goal.returns-in-0-to-32
returns-in-0-to-32 c = let h = scaled_small c.args.size c.args.word (omega arith) (omega arith) in grind (arith, nat_tests)

pub returns-in_default : goal.returns-in_default
returns-in_default c =
    let some = scaled_large c.args.size c.args.word (omega arith) in
    let none = scaled_zero c.args.size c.args.word in
    grind (arith, nat_tests)
