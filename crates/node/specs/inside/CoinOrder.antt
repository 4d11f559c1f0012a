-- Coins one after the other, by rising outpoints.
use Rattle.std.specs.Prelude.{◌≡◌, List, [], ◌∷◌, Option, Some}
use Rattle.txn.specs.declared.outpoint.OutPoint.{OutPoint}
use Rattle.coins.specs.Coins.{Coins}
use Rattle.coins.specs.declared.coin.Coin.{Coin}
use Rattle.coins.specs.Next.{IsNext}

-- from one outpoint these coins lead to another
abbrev pub Leads : Coins → Option OutPoint → List (OutPoint × Coin) → Option OutPoint → Type 0
Leads m above [] last = last ≡ above
Leads m above (e ∷ others) last = IsNext m above (Some e) × Leads m (Some e.0) others last
