-- The next entry of a map, and the next coin among some places.
use Rattle.std.specs.Prelude.{◌≡◌, false, List, Option, None, Some, IsSome}
use Rattle.std.specs.FinMap as map
use Rattle.std.specs.Ordering.{is_gt}
use Rattle.std.specs.declared.cmp.Ordering.TheVariants.{Less}
use Rattle.txn.specs.declared.outpoint.OutPoint.{OutPoint}
use Rattle.coins.specs.Coins.{Coin, Coins, outpoint_cmp}
use Rattle.coins.specs.Next.{IsAbove, IsNext}
use Rattle.coins.specs.laws.Lookups.{entry_for}

-- as IsNext, of a list of entries
abbrev pub IsNextEntry : List (OutPoint × Coin) → Option OutPoint → Option (OutPoint × Coin) → Type 0
IsNextEntry es from None = (q : OutPoint) → IsAbove from q → entry_for es q ≡ None
IsNextEntry es from (Some e) = IsAbove from e.0 × (entry_for es e.0 ≡ Some e.1)
    × ((q : OutPoint) → IsAbove from q → IsSome (entry_for es q) → is_gt (outpoint_cmp e.0 q) ≡ false)

-- whether an outpoint is above another; above none is none
abbrev pub IsBeyond : Option OutPoint → OutPoint → Type 0
IsBeyond None q = ⊥
IsBeyond (Some k) q = outpoint_cmp k q ≡ Less

-- as IsNext, where nothing also says that each further coin is beyond an outpoint
abbrev pub IsNextBefore : Option OutPoint → Coins → Option OutPoint → Option (OutPoint × Coin) → Type 0
IsNextBefore before m from None = (q : OutPoint) → IsAbove from q → IsSome (map.get m q) → IsBeyond before q
IsNextBefore before m from (Some e) = IsNext m from (Some e)
