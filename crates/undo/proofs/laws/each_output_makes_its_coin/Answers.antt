use Rattle.undo.specs.laws.RoundTrip.{output-after}
use Rattle.undo.proofs.laws.each_output_makes_its_coin.Goals as goal

pub returns : goal.returns
returns c = output-after
