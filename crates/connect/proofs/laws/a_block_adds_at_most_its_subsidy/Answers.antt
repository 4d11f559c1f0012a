use Rattle.connect.specs.laws.Total.{block_total}
use Rattle.connect.proofs.laws.a_block_adds_at_most_its_subsidy.Goals as goal

pub returns : goal.returns
returns c = block_total
