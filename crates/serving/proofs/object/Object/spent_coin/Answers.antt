use Rattle.std.proofs.Common.{arith}
use Rattle.std.proofs.lemmas.Int.{ints, to_z-of_z}
use mir.Val.{SFits}
use mir.Syntax.{w64}
use Rattle.serving.proofs.object.Object.spent_coin.Goals as goal
use Rattle.serving.proofs.TokenLists.{then}

pub returns : goal.returns
returns c =
    let value = c.args.coin.now.value in
    let fits : SFits w64 value = search (arith, ints, c.type_inv.coin) in
    let front = then (then c.in_ok-signed.ensures c.in_ok-bytes.ensures) c.in_ok-number.ensures in
    rw (to_z-of_z w64 value fits, c.from.ensures) at (then front c.flag.ensures)
