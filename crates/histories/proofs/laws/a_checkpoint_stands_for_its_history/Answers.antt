use Rattle.histories.specs.laws.Checkpoints.{whole_to_tail, tail_to_whole, known_whole, state_whole, length_whole_of}
use Rattle.histories.proofs.laws.a_checkpoint_stands_for_its_history.Goals as goal

pub returns : goal.returns
returns c = record {
  legal = λ o xs ys c legal is. (whole_to_tail o xs ys c is legal, tail_to_whole o xs ys c is legal);
  known = λ o xs ys c legal is. known_whole o xs ys c is legal;
  state = λ o xs ys c legal is tail valid agrees. state_whole o xs ys c is legal tail.news valid agrees;
  stamps = λ o xs ys c is. length_whole_of o xs ys c is;
}
