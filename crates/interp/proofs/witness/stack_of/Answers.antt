use Rattle.std.proofs.Common.{◌≡◌, ◌∙◌, List, ℕ, reverse, sym, ap}
use Rattle.std.proofs.lemmas.List.{reverse-reverse, take_all}
use Rattle.interp.proofs.witness.stack_of.Goals as goal

pub returns : goal.returns
returns c =
    let all : c.loop-string.elements.items ≡ c.args.strings.now = c.loop-string.invariant ∙ take_all c.loop-string.string-index c.args.strings.now c.loop-string-test.false in
    sym (reverse-reverse c.from_vec.result) ∙ ap (λ (items : List (List ℕ)). reverse items) (c.from_vec.ensures ∙ all)
