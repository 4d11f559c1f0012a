use Rattle.std.proofs.Common.{length, ap, ◌∙◌, arith}
use Rattle.block.specs.declared.block.Block.{Block}
use Rattle.tree.specs.State.{State, with_seen}
use Rattle.tree.proofs.Laid.{are_seen, has_one, laid_seen}
use Rattle.tree.proofs.overlay.OverlayMarking.see.Goals as goal

pub invariant_of-self : goal.invariant_of-self
invariant_of-self c =
    let k = ap (λ (s : State Block). length s.blocks) c.self.view_is in
    let r = c.requires in
    are_seen c.self.invariant c.args.place (has_one c.self.invariant c.args.place (omega arith)) c.index_mut.result.now c.index_mut.ensures.value

pub returns : goal.returns
returns c =
    let k = ap (λ (s : State Block). length s.blocks) c.self.view_is in
    let r = c.requires in
    laid_seen c.self.invariant c.args.place (has_one c.self.invariant c.args.place (omega arith)) c.index_mut.result.now c.index_mut.ensures.value
    ∙ ap (λ (s : State Block). with_seen s c.args.place) c.self.view_is
