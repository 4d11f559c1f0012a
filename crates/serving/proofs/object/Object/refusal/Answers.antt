use Rattle.std.proofs.Common.{arith}
use Rattle.std.proofs.lemmas.Int.{ints, to_z-of_z}
use mir.Val.{SFits}
use mir.Syntax.{w64}
use Rattle.serving.proofs.object.Object.refusal.Goals as goal
use Rattle.serving.proofs.TokenLists.{then}

pub returns : goal.returns
returns c =
    let fits : SFits w64 c.code.result = search (arith, ints, c.code.type_inv) in
    rw (to_z-of_z w64 c.code.result fits, c.code.ensures, c.message.ensures) at
    (then (then c.in_ok-signed.ensures c.in_ok-text.ensures) c.about.ensures)
