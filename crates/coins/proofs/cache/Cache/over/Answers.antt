use Rattle.std.proofs.Common.{refl}
use Rattle.coins.specs.Entries.{over}
use Rattle.coins.proofs.cache.Cache.over.Goals as goal

pub returns-clause-coins : goal.returns-clause-coins
unfolding over
returns-clause-coins g c = rw c.new.ensures.empty refl
