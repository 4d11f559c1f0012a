use Rattle.coins.proofs.MovedCoins.{gone_many}
use Rattle.coins.proofs.coin_map.remove_among.Goals as goal

pub returns : goal.returns
returns c = gone_many _ _ _ _ c.args.at.now c.erase.ensures c.remove.ensures
