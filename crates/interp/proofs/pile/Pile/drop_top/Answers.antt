use Rattle.std.proofs.Common.{◌≡◌, ◌∙◌, ◌+◌, ◌-◌, ap, reverse, length, drop, arith}
use Rattle.std.proofs.lemmas.List.{length-reverse}
use Rattle.interp.proofs.Piles.{drop-reversed}
use Rattle.interp.proofs.pile.Pile.drop_top.Goals as goal

pub returns : goal.returns
returns g c =
    let items = c.self.inside.items.items in
    let all : c.args.n + (c.len.result - c.args.n) ≡ length items = omega (arith, ap length c.self.view_is, length-reverse items) in
    ap reverse c.truncate.ensures.items ∙ drop-reversed c.args.n (c.len.result - c.args.n) items all ∙ ap (drop c.args.n) c.self.view_is
