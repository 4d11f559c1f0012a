use Rattle.std.proofs.Common.{Bool, ltb, eqb, ◌&&◌, ◌||◌, ap, ◌∙◌}
use Rattle.tree.specs.declared.rank.Standing.{Standing}
use Rattle.tree.specs.State.{beats}
use Rattle.tree.proofs.tree.Tree.better.Goals as goal

unfoldable above : Standing → Standing → Bool
above a b = ltb b.height a.height || (eqb a.height b.height && (ltb b.rank a.rank || (eqb a.rank b.rank && ltb a.place b.place)))

pub returns : goal.returns
unfolding above beats
returns c = c.is_above.ensures ∙ ap (λ (x : Standing). above x c.standing-2.result) c.standing.ensures ∙ ap (above _) c.standing-2.ensures
