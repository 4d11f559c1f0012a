use Rattle.std.proofs.Common.{◌≡◌, ◌-◌, ◌*◌, ◌/◌, ℕ, List, length, take, drop, ap, arith}
use Rattle.std.proofs.lemmas.List.{length-drop, take_all}
use Rattle.lanes.proofs.PaddedMessage.{tail-is}
use Rattle.lanes.proofs.padded_blocks.tail.Goals as goal

pub returns : goal.returns
returns c =
    let m : List ℕ = c.args.message.now in
    let q : ℕ = length m / 64 * 64 in
    let rest : List ℕ = take (length m - q) (drop q m) in
    let whole : rest ≡ drop q m = take_all (length m - q) (drop q m) (omega (arith, length-drop q m)) in
    tail-is m rest c.padded.result whole (c.padded.ensures (length m) (omega arith) (omega (arith, ap length whole, length-drop q m)))
