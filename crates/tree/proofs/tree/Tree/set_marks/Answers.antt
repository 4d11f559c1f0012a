use Rattle.std.proofs.Common.{List, sym, ap, ◌∙◌, subst}
use Rattle.tree.specs.declared.block_index.Mark.{Mark}
use Rattle.tree.specs.Nodes.{AreMarks, laid}
use Rattle.tree.proofs.Laid.{right_laid, state_laid}
use Rattle.tree.proofs.tree.Tree.set_marks.Goals as goal

pub invariant_of-self : goal.invariant_of-self
invariant_of-self c =
    right_laid c.self.invariant c.self.view_is c.marks.inside.marks.items (subst (λ (l : List Mark). AreMarks c.args.self.now l) (sym c.marks.view_is) c.requires)

pub returns : goal.returns
returns c = state_laid c.self.invariant c.self.view_is c.marks.inside.marks.items ∙ ap (λ (l : List Mark). laid c.args.self.now l) c.marks.view_is
