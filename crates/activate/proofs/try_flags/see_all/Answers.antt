use Rattle.std.proofs.Common.{ℕ, ◌≤◌, List, length, get_or, sym, ap, ◌∙◌, subst}
use Rattle.block.specs.declared.block.Block.{Block}
use Rattle.tree.specs.Branches.{Blocks}
use Rattle.tree.specs.State.{State, with_seen}
use Rattle.tree.specs.laws.Walks.{has_at}
use Rattle.activate.specs.laws.TryNotes.{joined_next}
use Rattle.activate.proofs.try_flags.see_all.Goals as goal

pub see-requires : goal.see-requires
see-requires g c =
    let l = c.args.found.now in
    let i = c.loop-place.place-index in
    subst (λ (t : Blocks Block). get_or l i 0 ≤ length t) (ap (λ (s : State Block). s.blocks) (sym c.loop-place.invariant))
    (c.requires.kept (get_or l i 0) (has_at l i 0 c.loop-place-test.true))

pub loop-place-preserved : goal.loop-place-preserved
loop-place-preserved g c =
    let s = g.M.Marking.state c.args.tree.now in
    let l = c.args.found.now in
    let i = c.loop-place.place-index in
    c.see.ensures ∙ ap (λ (x : State Block). with_seen x (get_or l i 0)) c.loop-place.invariant
    ∙ ap (λ (x : List ℕ). record s { seen = x }) (joined_next (length s.blocks) s.seen l i 0 c.loop-place-test.true)
