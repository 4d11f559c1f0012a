use Rattle.std.proofs.Common.{suc, ◌&&◌, ltb, length, ap, ◌∙◌, arith}
use Rattle.std.proofs.lemmas.Bool.{lt-ltb}
use Rattle.tree.specs.inside.Leaves.{is_leaf}
use Rattle.tree.proofs.Views.{leaves_at}
use Rattle.tree.proofs.tree.Tree.is_leaf.Goals as goal

pub returns : goal.returns
returns c =
    let t = c.args.self.now.blocks in
    let h = c.requires in
    c.contains.ensures ∙ (leaves_at c.self.invariant c.self.view_is).all c.args.place ∙ ap (λ b. b && is_leaf t c.args.place) (lt-ltb c.args.place (suc (length t)) (omega arith))
