use Rattle.std.proofs.Common.{◌≡◌, ◌∙◌, ◌+◌, ◌-◌, ap, reverse, length, remove, arith}
use Rattle.std.proofs.lemmas.List.{length-reverse}
use Rattle.interp.proofs.Piles.{remove-reversed}
use Rattle.interp.proofs.pile.Pile.remove.Goals as goal

pub returns-clause-others : goal.returns-clause-others
returns-clause-others g c =
    let items = c.self.inside.items.items in
    let all : c.args.n + (c.len.result - 1 - c.args.n) + 1 ≡ length items = omega (arith, ap length c.self.view_is, length-reverse items) in
    ap reverse c.remove.ensures.items ∙ remove-reversed c.args.n (c.len.result - 1 - c.args.n) c.remove.result items all
    ∙ ap (λ s. remove s c.args.n) c.self.view_is
