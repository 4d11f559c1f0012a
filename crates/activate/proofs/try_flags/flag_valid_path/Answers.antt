use Rattle.std.proofs.Common.{ℕ, List, sym, ap, ◌∙◌}
use Rattle.tree.specs.Branches.{has, places}
use Rattle.tree.specs.State.{union_where}
use Rattle.tree.specs.laws.Branches.{on-bounds}
use Rattle.activate.specs.laws.TryNotes.{above-on, way_noted}
use Rattle.activate.proofs.try_flags.flag_valid_path.Goals as goal

pub see_all-requires-clause-kept : goal.see_all-requires-clause-kept
see_all-requires-clause-kept c = λ x h.
    let t = c.args.tree.now.blocks in
    let p = c.requires.2 in
    let is = c.requires.3 in
    (on-bounds t p x
    (above-on t c.args.path.now.fork p x is.kept is.leads.shared.there (ap (λ (l : List ℕ). has l x) (sym (c.as_slice.ensures.value ∙ is.leads.up)) ∙ h))).1

pub see_all-requires-clause-order : goal.see_all-requires-clause-order
see_all-requires-clause-order c = c.requires.3.flags.seen_in_order

pub returns : goal.returns
returns c r a p is =
    let s = c.args.tree.now in
    c.see_all.ensures ∙ ap (λ (l : List ℕ). record s { seen = union_where (places s.blocks) s.seen (λ x. has l x) }) (c.as_slice.ensures.value ∙ is.leads.up)
    ∙ way_noted r s a p c.args.path.now.fork is.kept is.leads.shared is.flags.seen is.good is.flags.bad_in_order
