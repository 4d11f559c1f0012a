-- Where the byte stands in the word, or beside it.
use Rattle.std.proofs.Common.{sym, arith, ◌+◌, ◌-◌}
use Rattle.ffi.proofs.Digits.{digit_above, digit_behind, digit_within}
use Rattle.ffi.proofs.bits.digit.Goals as goal

pub returns-then-behind-size : goal.returns-then-behind-size
returns-then-behind-size c = sym (digit_behind c.args.size c.args.word c.args.place (omega arith))

pub returns-in-0 : goal.returns-in-0
returns-in-0 c = rw (digit_within c.args.size c.args.word c.args.place 0 (omega arith)) (omega arith)

pub returns-in-1 : goal.returns-in-1
returns-in-1 c = rw (digit_within c.args.size c.args.word c.args.place 1 (omega arith)) (omega arith)

pub returns-in-2 : goal.returns-in-2
returns-in-2 c = rw (digit_within c.args.size c.args.word c.args.place 2 (omega arith)) (omega arith)

pub returns-in_default : goal.returns-in_default
returns-in_default c =
    sym (digit_above c.args.size c.args.word c.args.place (c.args.place + 3 - c.args.size) (omega arith) (omega arith) (omega arith))
