use Rattle.std.proofs.Common.{ap, Some, sym, refl, rules}
use Rattle.std.proofs.lemmas.Int.{to_z-of_z}
use mir.Val.{SFits}
use mir.Syntax.{w64}
use borrow.Author.Tests.{le-ltb, lt-ltb}
use Rattle.script.specs.Num.{operand}
use Rattle.script.proofs.num.Num.read.Goals as goal

pub returns-then-bytes-min : goal.returns-then-bytes-min
unfolding operand
returns-then-bytes-min c = rw (sym c.min.ensures, lt-ltb _ _ c.if-bytes-min.true) refl

pub returns : goal.returns
unfolding operand
returns c =
    let fits : SFits w64 c.value.result = search rules in
    rw (sym c.min.ensures, le-ltb _ _ c.if-bytes-min.false, to_z-of_z w64 c.value.result fits) (ap Some c.value.ensures)
