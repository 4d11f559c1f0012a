use Rattle.histories.specs.laws.Checkpoints.{goes_on}
use Rattle.histories.proofs.laws.a_checkpoint_is_made_from_the_last_one.Goals as goal

pub returns : goal.returns
returns c = λ o xs ys c next legal is tail count state found. goes_on o xs ys c is legal next tail count state found
