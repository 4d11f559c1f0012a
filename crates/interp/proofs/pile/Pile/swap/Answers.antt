use Rattle.std.proofs.Common.{◌≡◌, ◌∙◌, ◌+◌, ◌-◌, ap, reverse, length, arith}
use Rattle.std.proofs.lemmas.List.{length-reverse}
use Rattle.std.specs.List.{swap}
use Rattle.interp.proofs.Piles.{swap-reversed}
use Rattle.interp.proofs.pile.Pile.swap.Goals as goal

pub returns : goal.returns
returns g c =
    let items = c.self.inside.items.items in
    let top = c.len-top.result - 1 in
    let one : c.args.m + (top - c.args.m) + 1 ≡ length items = omega (arith, ap length c.self.view_is, length-reverse items) in
    let other : c.args.n + (top - c.args.n) + 1 ≡ length items = omega (arith, ap length c.self.view_is, length-reverse items) in
    ap reverse c.swap.ensures.items ∙ swap-reversed c.args.m c.args.n (top - c.args.m) (top - c.args.n) items one other
    ∙ ap (λ s. swap s c.args.m c.args.n) c.self.view_is
