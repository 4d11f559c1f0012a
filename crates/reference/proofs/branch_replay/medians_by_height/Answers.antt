use Rattle.std.proofs.Common.{◌≡◌, ℕ, List, reverse, sym, ap, ◌∙◌, subst}
use Rattle.std.specs.Prelude.{IfOk}
use Rattle.reference.specs.inside.Replay.{blocks_in, medians_in}
use Rattle.reference.proofs.BranchReplay.{medians-times}
use Rattle.reference.proofs.branch_replay.medians_by_height.Goals as goal

pub returns : goal.returns
returns c =
    let bs = blocks_in c.args.held.now c.args.branch.now in
    subst (λ (l : List ℕ). IfOk c.medians.result (λ medians. medians.items ≡ reverse l))
    (ap (λ (l : List ℕ). medians_in l) (c.deref.ensures.value ∙ c.in_ok-times.ensures) ∙ sym (medians-times bs)) c.medians.ensures
