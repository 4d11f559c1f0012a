-- Verdicts that a seat keeps.
use Rattle.std.specs.Prelude.{◌≡◌}
use Rattle.signatures.specs.Known.{Verdicts, verdict_in}
use Rattle.signatures.specs.laws.Growth.{Grows}
use Rattle.view.specs.HistoryPrefix.{Beginning}
use Rattle.view.specs.Origin.{Origin, known_in}

-- verdicts, and a history that has them
pub record LearntState : Type 0 where
  pub found : Verdicts
  pub seen : Beginning

-- the history is of this origin, and each verdict is known after it
pub record IsLearnt (o : Origin) (seen : Beginning) (found : Verdicts) : Type 0 where
  pub book_is : seen.book ≡ o.book
  pub known : Grows (verdict_in found) (known_in o seen.entries)
