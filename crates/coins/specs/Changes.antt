-- Lists of changes: outpoints, each with the coin that is there after, or None where it is gone.
use Rattle.std.specs.Prelude.{◌≡◌, List, [], ◌∷◌, Option, None, Some}
use Rattle.std.specs.List.Sorted.{IsStrictlySortedBy}
use Rattle.std.specs.Map.{lookup, keys_of}
use Rattle.std.specs.BTreeMap.{is_at}
use Rattle.std.specs.FinMap as map
use Rattle.txn.specs.declared.outpoint.OutPoint.{OutPoint}
use Rattle.coins.specs.Coins.{Coin, Coins, outpoint_cmp, put}

abbrev pub Changes : Type 0
Changes = List (OutPoint × Option Coin)

-- what a list names at an outpoint, if it names that
abbrev pub change_at : Changes → OutPoint → Option (Option Coin)
change_at cs q = lookup (is_at (outpoint_cmp q)) cs

-- by rising outpoints, so that none comes twice
abbrev pub IsInOrder : Changes → Type 0
IsInOrder cs = IsStrictlySortedBy outpoint_cmp (keys_of cs)

-- the list names each outpoint at which the coins m and n differ, once and in order, with what stands
-- there in n, and no other outpoint
pub record AreChanges (m n : Coins) (cs : Changes) : Type 0 where
  pub in_order : IsInOrder cs
  pub differ : (q : OutPoint) (w : Option Coin) → change_at cs q ≡ Some w → (w ≡ map.get n q) × ¬ (map.get n q ≡ map.get m q)
  pub others : (q : OutPoint) → change_at cs q ≡ None → map.get n q ≡ map.get m q

-- the coins with a list of changes laid over them
unfoldable pub after_changes : Coins → Changes → Coins
after_changes m [] = m
after_changes m (c ∷ cs) = put (after_changes m cs) c.0 c.1
