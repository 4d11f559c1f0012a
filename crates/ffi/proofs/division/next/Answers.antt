-- A bit more of the sum.
use Rattle.std.proofs.Common.{arith}
use Rattle.std.proofs.lemmas.Bool.Decides.{nat_tests}
use Rattle.ffi.specs.inside.Wide.{value}
use Rattle.ffi.proofs.Halves.{sum_even, sum_odd}
use Rattle.ffi.proofs.division.next.Goals as goal

pub returns-then-is_below-clause-sum : goal.returns-then-is_below-clause-sum
returns-then-is_below-clause-sum c =
    let q = value c.args.found.now.quotient in
    rw (c.twice_and_one.ensures, sum_odd q (value c.args.by)) (grind (arith, nat_tests))

pub returns-else-is_below-clause-sum : goal.returns-else-is_below-clause-sum
returns-else-is_below-clause-sum c =
    let q = value c.args.found.now.quotient in
    rw (c.twice.ensures, sum_even q (value c.args.by)) (grind (arith, nat_tests))
