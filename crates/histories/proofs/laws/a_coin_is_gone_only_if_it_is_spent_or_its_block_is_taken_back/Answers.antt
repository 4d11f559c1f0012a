use Rattle.histories.specs.laws.Confirmations.{coin_stays}
use Rattle.histories.proofs.laws.a_coin_is_gone_only_if_it_is_spent_or_its_block_is_taken_back.Goals as goal

pub returns : goal.returns
returns c = λ params valid t outpoint coin active other made h kept o free. coin_stays params valid t outpoint active other made coin h kept o free
