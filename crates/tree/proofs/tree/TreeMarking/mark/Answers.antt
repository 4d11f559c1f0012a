use Rattle.std.proofs.Common.{◌≡◌, ℕ, ◌<◌, ◌||◌, eqb, List, [], length, sym, ap, ◌∙◌, subst, arith}
use Rattle.std.proofs.lemmas.Bool.{ne_eqb}
use Rattle.hash.specs.declared.id.Id.{Id}
use Rattle.block.specs.declared.block.Block.{Block}
use Rattle.tree.specs.declared.block_index.BlockIndex.{BlockIndex}
use Rattle.tree.specs.declared.block_index.Mark.{Mark}
use Rattle.tree.specs.State.{State, with_mark}
use Rattle.tree.specs.Nodes.{state_of}
use Rattle.tree.specs.inside.Nodes.{AreRemarked, AreUsable, IsRight}
use Rattle.tree.proofs.Views.{kept}
use Rattle.tree.proofs.Laid.{are_remarked, blocks_there, laid_marked, of_lent, own_laid, own_marks, right_laid, state_laid, usable_before}
use Rattle.tree.proofs.MarkChanges.{comes_back}
use Rattle.tree.proofs.tree.TreeMarking.mark.Goals as goal

pub mark_block-requires-clause-usable : goal.mark_block-requires-clause-usable
mark_block-requires-clause-usable c =
    subst (λ (l : List BlockIndex). AreUsable (state_of l c.as_mut_slice.result.now []) c.as_mut_slice.result.now (length l)) (sym c.as_slice.ensures.value)
    (subst (λ (l : List Mark). AreUsable (state_of c.self.inside.nodes.items l []) l (length c.self.inside.nodes.items)) (sym c.as_mut_slice.ensures.value)
    (usable_before (own_marks c.self.invariant c.self.view_is) c.self.inside.nodes.items c.self.invariant.some (blocks_there c.self.invariant c.self.view_is)))

pub mark_block-requires-clause-kept : goal.mark_block-requires-clause-kept
mark_block-requires-clause-kept c =
    let k = kept c.self.invariant c.self.view_is in
    let r = c.requires.kept in
    let l = ap (λ (l : List BlockIndex). length l) c.as_slice.ensures.value in
    omega arith

module _ {ns : List BlockIndex} {ms : List Mark} {cs : List ℕ} {is : List (Id × ℕ)} {ls : List ℕ} (right : IsRight ns ms cs is ls) {s : State Block} (view : state_of ns ms cs ≡ s) (p : ℕ) (new : List Mark)
    (done : AreRemarked ns ms new (λ q bad. bad || eqb q p)) where
  -- the tree is right with the marks that are left
  right_marked : 0 < p → IsRight ns new cs is ls
  right_marked z =
      right_laid right view new
      (are_remarked (own_marks right view) ns right.some (blocks_there right view) new (λ q bad. bad || eqb q p) (ne_eqb 0 p (λ e. omega arith)) done)

  -- and the block is marked in it
  state_marked : state_of ns new cs ≡ with_mark s p
  state_marked =
      state_laid right view new ∙ laid_marked (own_marks right view) ns right.some (blocks_there right view) new p done
      ∙ ap (λ (t : State Block). with_mark t p) (own_laid right view)

pub invariant_of-self : goal.invariant_of-self
invariant_of-self c =
    let done = of_lent c.mark_block.new.marks (λ q bad. bad || eqb q c.args.place) c.as_slice.ensures.value c.as_mut_slice.ensures.value c.mark_block.ensures in
    subst (λ (l : List Mark). IsRight c.self.inside.nodes.items l c.self.inside.calls.items c.self.inside.ids.entries c.self.inside.leaves.keys)
    (sym (comes_back c.mark_block.new.marks c.self.inside.marks.items c.as_mut_slice.result.now c.self.inside.marks.len c.as_mut_slice.ensures.value c.as_mut_slice.ensures.len (done.count ∙ sym c.self.invariant.same)))
    (right_marked c.self.invariant c.self.view_is c.args.place c.mark_block.new.marks done c.requires.not_genesis)

pub returns : goal.returns
returns c =
    let done = of_lent c.mark_block.new.marks (λ q bad. bad || eqb q c.args.place) c.as_slice.ensures.value c.as_mut_slice.ensures.value c.mark_block.ensures in
    ap (λ (l : List Mark). state_of c.self.inside.nodes.items l c.self.inside.calls.items)
    (comes_back c.mark_block.new.marks c.self.inside.marks.items c.as_mut_slice.result.now c.self.inside.marks.len c.as_mut_slice.ensures.value c.as_mut_slice.ensures.len (done.count ∙ sym c.self.invariant.same))
    ∙ state_marked c.self.invariant c.self.view_is c.args.place c.mark_block.new.marks done
