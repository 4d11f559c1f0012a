-- Coins whose scripts lie one after the other, and how many are of each transaction. No public clause needs these words.
use Rattle.std.specs.Prelude.{◌≡◌, ℕ, List, [], ◌∷◌, length, sum_by, take, drop}
use Rattle.coins.specs.declared.coin.Coin.{Coin}
use Rattle.undo.specs.declared.coin_head.CoinHead.{CoinHead}

-- a coin without its script
abbrev pub head_of : Coin → CoinHead
head_of coin = record { value = coin.value; script_len = length coin.script; height = coin.height; coinbase = coin.coinbase }

-- a coin of this head, whose script begins these bytes
abbrev pub coin_at : CoinHead → List ℕ → Coin
coin_at head bytes = record { value = head.value; script = take head.script_len bytes; height = head.height; coinbase = head.coinbase }

-- the coins of these heads, whose scripts are these bytes
abbrev pub packed_coins : List CoinHead → List ℕ → List Coin
packed_coins [] bytes = []
packed_coins (head ∷ heads) bytes = coin_at head bytes ∷ packed_coins heads (drop head.script_len bytes)

-- the bytes are their scripts, and no more
abbrev pub AreWhole : List CoinHead → List ℕ → Type 0
AreWhole heads bytes = sum_by (λ head. head.script_len) heads ≡ length bytes

-- coins in lists of these lengths
abbrev pub grouped : List ℕ → List Coin → List (List Coin)
grouped [] coins = []
grouped (n ∷ counts) coins = take n coins ∷ grouped counts (drop n coins)
