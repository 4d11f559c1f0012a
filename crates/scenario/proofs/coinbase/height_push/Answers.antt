use Rattle.std.proofs.Common.{rules, ◌≤◌, ◌≡◌, length, pos, ap, arith}
use Rattle.script.specs.Num.{shortest_bytes}
use Rattle.scenario.proofs.Short.{short}
use Rattle.scenario.proofs.coinbase.height_push.Goals as goal

pub push-requires-2 : goal.push-requires-2
push-requires-2 c =
    let few = short (pos c.args.height) in
    let same : c.in_ok-number.number.items ≡ shortest_bytes (pos c.args.height) = search rules in
    let long = ap length same in
    omega (arith, few, long)
