use Rattle.coins.proofs.EntryNames.{in_order-named}
use Rattle.coins.proofs.changes.Changes.new.Goals as goal

pub invariant_of-result : goal.invariant_of-result
invariant_of-result c = in_order-named _ c.new.ensures.ordered
