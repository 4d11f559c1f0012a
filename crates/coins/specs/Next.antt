-- The coins one after the other, by rising outpoints.
use Rattle.std.specs.Prelude.{◌≡◌, false, Option, None, Some, IsSome, ⊤}
use Rattle.std.specs.FinMap as map
use Rattle.std.specs.Ordering.{is_gt}
use Rattle.std.specs.declared.cmp.Ordering.TheVariants.{Less}
use Rattle.txn.specs.declared.outpoint.OutPoint.{OutPoint}
use Rattle.coins.specs.Coins.{Coin, Coins, outpoint_cmp}

-- whether an outpoint is above another; all are above none
abbrev pub IsAbove : Option OutPoint → OutPoint → Type 0
IsAbove None q = ⊤
IsAbove (Some p) q = outpoint_cmp p q ≡ Less

-- the coin at the least outpoint above another, with that outpoint, or nothing where no outpoint above has a coin
abbrev pub IsNext : Coins → Option OutPoint → Option (OutPoint × Coin) → Type 0
IsNext m from None = (q : OutPoint) → IsAbove from q → map.get m q ≡ None
IsNext m from (Some e) = IsAbove from e.0 × (map.get m e.0 ≡ Some e.1)
    × ((q : OutPoint) → IsAbove from q → IsSome (map.get m q) → is_gt (outpoint_cmp e.0 q) ≡ false)
