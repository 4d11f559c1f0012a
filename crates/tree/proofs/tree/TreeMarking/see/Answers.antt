use Rattle.std.proofs.Common.{ap, ◌∙◌, arith}
use Rattle.block.specs.declared.block.Block.{Block}
use Rattle.tree.specs.State.{State, with_seen}
use Rattle.tree.proofs.Laid.{are_seen, has_one, laid_seen, own_laid, own_marks, right_laid, state_laid}
use Rattle.tree.proofs.tree.TreeMarking.see.Goals as goal

pub index_mut-requires : goal.index_mut-requires
index_mut-requires c = let h = has_one (own_marks c.self.invariant c.self.view_is) c.args.place c.requires in omega arith

pub invariant_of-self : goal.invariant_of-self
invariant_of-self c =
    let own = own_marks c.self.invariant c.self.view_is in
    right_laid c.self.invariant c.self.view_is _ (are_seen own c.args.place (has_one own c.args.place c.requires) c.index_mut.result.now c.index_mut.ensures.value)

pub returns : goal.returns
returns c =
    let own = own_marks c.self.invariant c.self.view_is in
    state_laid c.self.invariant c.self.view_is _ ∙ laid_seen own c.args.place (has_one own c.args.place c.requires) c.index_mut.result.now c.index_mut.ensures.value
    ∙ ap (λ (s : State Block). with_seen s c.args.place) (own_laid c.self.invariant c.self.view_is)
