use Rattle.std.proofs.Common.{◌≡◌, ℕ, ◌||◌, List, sym, ap, ◌∙◌}
use Rattle.tree.specs.Branches.{branch, has, on}
use Rattle.reference.specs.inside.Replay.{blocks_of}
use Rattle.reference.proofs.state.is_related.Goals.{then-has, else-has}
use Rattle.reference.proofs.state.is_related.Goals as goal

pub returns : goal.returns
unfolding on
returns c =
    let t = blocks_of c.args.held.now in
    let up : c.has.result ≡ has (branch t c.args.one) c.args.other =
    c.has.ensures ∙ ap (λ (k : List ℕ). has k c.args.other) (c.deref.ensures.value ∙ c.in_ok-up.ensures) in
    elim c.if-has.branch [
      | then-has w ↦ w.result-is ∙ w.if-has.true ∙ ap (λ b. b || has (branch t c.args.other) c.args.one) (sym (sym up ∙ w.if-has.true))
      | else-has w ↦
          w.result-is ∙ w.has-else-has.ensures ∙ ap (λ (k : List ℕ). has k c.args.one) (w.deref-else-has.ensures.value ∙ c.in_ok-down.ensures)
          ∙ ap (λ b. b || has (branch t c.args.other) c.args.one) (sym (sym up ∙ w.if-has.false))
    ]
