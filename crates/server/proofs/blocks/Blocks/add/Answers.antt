use Rattle.std.proofs.Common.{◌≡◌, ◌<◌, ◌+◌, ℕ, List, [], take, length, get_or, sym, subst, arith, rules}
use Rattle.model.specs.declared.entry.Entry.{Entry}
use Rattle.server.specs.inside.Brought.{AreBrought, seen_by}
use Rattle.server.proofs.Brought.{brought_push, take_next}
use Rattle.server.proofs.blocks.Blocks.add.Goals as goal

pub invariant_of-self-2 : goal.invariant_of-self-2
invariant_of-self-2 g c =
    let s = c.self.inside in
    let i = c.self.invariant in
    let e = c.args.entry.now in
    let within : s.steps < length (seen_by s.note) = rw (sym c.self.view_is) at c.requires.within in
    let next : e ≡ get_or (seen_by s.note) s.steps e = rw (sym c.self.view_is) at c.requires.next in
    let one : c.in-Some.steps ≡ s.steps + 1 = search rules in (
      omega (arith, within, one),
      subst (λ (n : ℕ). AreBrought [] (take n (seen_by s.note)) c.add_brought.new.tree.blocks) (sym one)
          (subst (λ (l : List Entry). AreBrought [] l c.add_brought.new.tree.blocks) (sym (take_next (seen_by s.note) s.steps e within next))
          (brought_push [] s.tree.blocks c.add_brought.new.tree.blocks (take s.steps (seen_by s.note)) e i.1 c.in_ok-add_brought.ensures.ok)),
    )
