use Rattle.histories.specs.laws.Checkpoints.{genesis_is_reached, tail_to_whole, length_whole_of, state_whole}
use Rattle.histories.proofs.laws.what_goes_on_from_a_checkpoint_is_a_history.Goals as goal

pub returns : goal.returns
returns c = record {
  begins = λ o. genesis_is_reached o;
  goes_on = λ o c ys reached tail. (
    reached.0,
    tail_to_whole o reached.0 ys c reached.2 reached.1 tail,
    length_whole_of o reached.0 ys c reached.2,
    λ valid agrees. state_whole o reached.0 ys c reached.2 reached.1 tail.news valid agrees,
  );
}
