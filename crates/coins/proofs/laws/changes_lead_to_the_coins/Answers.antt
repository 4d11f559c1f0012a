use Rattle.coins.specs.laws.Changes.{laid-changes}
use Rattle.coins.proofs.laws.changes_lead_to_the_coins.Goals as goal

pub returns : goal.returns
returns c = laid-changes
