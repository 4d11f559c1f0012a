use Rattle.std.proofs.Common.{arith}
use Rattle.std.proofs.lemmas.Int.{ints, to_z-of_z}
use mir.Val.{SFits}
use mir.Syntax.{w64}
use Rattle.serving.proofs.object.Object.output.Goals as goal
use Rattle.serving.proofs.TokenLists.{then}

pub returns : goal.returns
returns c =
    let value = c.args.output.now.value in
    let fits : SFits w64 value = search (arith, ints, c.type_inv.output) in
    rw (to_z-of_z w64 value fits, c.from.ensures, c.from-2.ensures) at
    (then (then (then (then c.in_ok-signed.ensures c.in_ok-bytes.ensures) c.in_ok-number.ensures) c.in_ok-origin.ensures)
    c.number-2.ensures)
