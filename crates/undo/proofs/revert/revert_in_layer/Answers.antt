use Rattle.std.proofs.Common.{◌∙◌}
use Rattle.undo.specs.laws.RoundTrip.{revertible, reverted_is}
use Rattle.undo.proofs.Steps.{if_ok, to_coins}
use Rattle.undo.proofs.revert.revert_in_layer.Goals as goal

pub revert-requires : goal.revert-requires
revert-requires g c = let a = c.requires in revertible a.0 c.args.tx.now c.args.id a.1 c.args.layer.coins c.args.spent.now a.2

pub returns : goal.returns
returns g c = λ before height applied. if_ok c.revert.result c.revert.ensures (λ left h.
    h ∙ to_coins c.args.layer _ before (reverted_is before c.args.tx.now c.args.id height c.args.layer.coins c.args.spent.now applied))
