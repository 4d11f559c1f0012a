use Rattle.std.proofs.Common.{List, sym, ap, ◌∙◌, subst}
use Rattle.tree.specs.declared.block_index.Mark.{Mark}
use Rattle.tree.specs.Nodes.{AreMarks, laid}
use Rattle.tree.proofs.Laid.{own_laid, own_marks}
use Rattle.tree.proofs.overlay.Overlay.over.Goals as goal

pub invariant_of-result : goal.invariant_of-result
invariant_of-result c =
    subst (λ (l : List Mark). AreMarks c.args.tree.now l) (sym (c.in_ok-from_slice.ensures.items ∙ c.as_slice.ensures.value)) (own_marks c.tree.invariant c.tree.view_is)

pub returns : goal.returns
returns c =
    ap (λ (l : List Mark). laid c.args.tree.now l) (c.in_ok-from_slice.ensures.items ∙ c.as_slice.ensures.value) ∙ own_laid c.tree.invariant c.tree.view_is
