-- Coins as a finite map from outpoints.
use Rattle.std.specs.Prelude.{ℤ, pos, ◌+ℤ◌, List, [], ◌∷◌, ◌++◌, ℕ, Bool, Option, None, Some, refl}
use Rattle.std.specs.FinMap as map
use Rattle.std.specs.declared.cmp.Ordering.{Ordering}
use Rattle.std.specs.Ordering.{nat_cmp, ordering_then, eq_by_cmp}
use Rattle.std.specs.Cmp.Lexicographic.{slice_cmp}
use Rattle.std.specs.Coded.{Coded, code_by, coded×, coded_ℕ, coded_ℤ, coded_bool, coded_list}
use Rattle.txn.specs.declared.outpoint.OutPoint.{OutPoint}
pub use Rattle.coins.specs.declared.coin.Coin.{Coin}

-- the order of outpoints: by the id's bytes as they are hashed, then by the index
abbrev pub outpoint_cmp : OutPoint → OutPoint → Ordering
outpoint_cmp a b = ordering_then (slice_cmp nat_cmp a.id.0 b.id.0) (nat_cmp a.index b.index)

-- whether two outpoints are one
abbrev pub same : OutPoint → OutPoint → Bool
same = eq_by_cmp outpoint_cmp

-- the coins that there are, by their outpoints
abbrev pub Coins : Type 0
Coins = map.FinMap outpoint_cmp Coin

-- the coins of a layer, and the ones of its base
pub record Layer : Type 0 where
  pub base : Coins
  pub coins : Coins

-- the coins with this at an outpoint: a coin, or none
abbrev pub put : Coins → OutPoint → Option Coin → Coins
put m at None = map.remove m at
put m at (Some coin) = map.insert m at coin

-- the coins of a plain map: of its many maps, once it has these, and of its one map where they have none
abbrev pub few_and_many : List (OutPoint × Coin) → Option Coins → Coins
few_and_many few None = map.from_entries few
few_and_many few (Some many) = map.from_entries (map.entries many ++ few)

-- the sum of the values of coins
abbrev pub sum_of_values : List Coin → ℤ
sum_of_values [] = pos 0
sum_of_values (coin ∷ coins) = coin.value +ℤ sum_of_values coins

-- of all coins, in satoshis
unfoldable pub total : Coins → ℤ
total m = sum_of_values (map.values m)

-- ---- how such values are told apart

abbrev pub coded_outpoint : Coded OutPoint
coded_outpoint = code_by (List ℕ × ℕ) (coded× (coded_list coded_ℕ) coded_ℕ) (λ p. (p.id.0, p.index)) (λ p. record { id = record { 0 = p.0 }; index = p.1 }) (λ _. refl)

abbrev pub coded_coin : Coded Coin
coded_coin = code_by (ℤ × (List ℕ × (ℕ × Bool))) (coded× coded_ℤ (coded× (coded_list coded_ℕ) (coded× coded_ℕ coded_bool))) (λ c. (c.value, (c.script, (c.height, c.coinbase)))) (λ p. record { value = p.0; script = p.1.0; height = p.1.1.0; coinbase = p.1.1.1 }) (λ _. refl)

abbrev pub coded_coins : Coded Coins
coded_coins = map.code coded_outpoint coded_coin

abbrev pub coded_layer : Coded Layer
coded_layer = code_by (Coins × Coins) (coded× coded_coins coded_coins) (λ l. (l.base, l.coins)) (λ p. record { base = p.0; coins = p.1 }) (λ _. refl)
