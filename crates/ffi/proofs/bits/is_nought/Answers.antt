-- By the size, up to which the lowest bytes of the word are lost.
use Rattle.std.proofs.Common.{refl, arith}
use Rattle.std.proofs.lemmas.Bool.Decides.{nat_tests}
use Rattle.ffi.proofs.Digits.{scaled_at_0, scaled_at_1, scaled_at_2, scaled_some, scaled_zero}
use Rattle.ffi.proofs.bits.is_nought.Goals as goal

pub returns-in-0 : goal.returns-in-0
returns-in-0 c = rw (c.in-0.is, scaled_at_0 c.args.word (omega arith)) refl

pub returns-in-1 : goal.returns-in-1
returns-in-1 c = rw (c.in-1.is, scaled_at_1 c.args.word) refl

pub returns-in-2 : goal.returns-in-2
returns-in-2 c = rw (c.in-2.is, scaled_at_2 c.args.word) refl

pub returns-in_default : goal.returns-in_default
returns-in_default c =
    let some = scaled_some c.args.size c.args.word (omega arith) in
    let none = scaled_zero c.args.size c.args.word in
    grind (arith, nat_tests)
