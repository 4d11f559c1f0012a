use Rattle.std.proofs.Common.{rules, ◌≡◌, ◌∙◌}
use Rattle.undo.specs.Effect.{spends, without}
use Rattle.undo.proofs.Steps.{all-there}
use Rattle.undo.proofs.apply.apply_in_layer.Goals as goal

pub unwrap-layer-requires : goal.unwrap-layer-requires
unwrap-layer-requires g c = c.in_ok-take_inputs.ensures.all ∙ all-there c.args.layer.coins (spends c.args.tx.now) c.requires.coins

pub add_outputs-requires : goal.add_outputs-requires
add_outputs-requires g c =
    let left : c.unwrap-layer.result.0.coins ≡ without c.args.layer.coins (spends c.args.tx.now) = search rules in
    (c.args.layer.coins, c.requires, left)
