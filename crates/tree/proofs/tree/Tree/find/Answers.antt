use Rattle.std.proofs.Common.{◌∙◌}
use Rattle.tree.proofs.Views.{ids_are}
use Rattle.tree.proofs.tree.Tree.find.Goals as goal

pub returns : goal.returns
returns c =
    c.copied.ensures ∙ c.get.ensures.value ∙ ids_are c.self.invariant c.self.view_is c.args.id.now
