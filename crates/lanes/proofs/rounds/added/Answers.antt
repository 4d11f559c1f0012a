use Rattle.std.proofs.Common.{◌∷◌, []}
use Rattle.lanes.proofs.rounds.added.Goals as goal

pub returns : goal.returns
returns c = λ l lt i. c.sum.ensures.at l lt i ∷ c.sum-2.ensures.at l lt i ∷ c.sum-3.ensures.at l lt i ∷ c.sum-4.ensures.at l lt i ∷ c.sum-5.ensures.at l lt i ∷ c.sum-6.ensures.at l lt i ∷ c.sum-7.ensures.at l lt i ∷ c.sum-8.ensures.at l lt i ∷ []
