use Rattle.std.proofs.Common.{◌∙◌}
use Rattle.undo.specs.laws.RoundTrip.{revertible, reverted_is}
use Rattle.undo.proofs.Steps.{on_ok, to_coins}
use Rattle.undo.proofs.revert.revert_tx.Goals as goal

pub undone-requires : goal.undone-requires
undone-requires g c = let a = c.requires in revertible a.0 c.args.tx.now c.args.id a.1 c.args.cache.now.coins c.args.spent.now a.2

pub returns-clause-ok : goal.returns-clause-ok
returns-clause-ok g c = λ before height applied. on_ok c.absorb.result c.absorb.ensures.ok (λ h.
    h ∙ to_coins c.args.cache.now _ before (c.in_ok-writes.ensures.over ∙ reverted_is before c.args.tx.now c.args.id height c.args.cache.now.coins c.args.spent.now applied))
