use Rattle.std.proofs.Common.{◌+◌, ◌∷◌, ◌∙◌, sym, ap, take, drop, List, ℕ}
use Rattle.std.proofs.lemmas.List.{take_rest}
use Rattle.durable.specs.Lines.{lines}
use Rattle.durable.proofs.Whole.{first_is}
use Rattle.durable.proofs.lines.first_line.Goals as goal

pub returns : goal.returns
returns c =
    let e = c.in_ok-len.ensures in
    let rest = sym (ap lines (take_rest c.args.text.now (c.in_ok-len.len + 1))) in
    first_is c.args.text.now (take c.in_ok-len.len c.args.text.now) (drop (c.in_ok-len.len + 1) c.args.text.now) e.2 e.1 ∙ ap (λ (l : List (List ℕ)). take c.in_ok-len.len c.args.text.now ∷ l) rest
