-- Coins that are lent.
use Rattle.coins.specs.declared.coin.Coin.{Coin}
use Rattle.coins.specs.declared.lent.Lent.{Lent}

-- the coin that is lent, with the bytes of its script
abbrev pub lent : Lent → Coin
lent l = record { value = l.value; script = l.script.now; height = l.height; coinbase = l.coinbase }
