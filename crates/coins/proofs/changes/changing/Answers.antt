use Rattle.std.proofs.Common.{rules}
use Rattle.coins.proofs.LayerChanges.{changing-from_retain}
use Rattle.coins.proofs.changes.changing.Goals as goal

pub returns-clause-changing : goal.returns-clause-changing
returns-clause-changing g c = changing-from_retain _ _ _ (λ k e b w h t. search rules) _ _ c.retain.ensures.filtered
