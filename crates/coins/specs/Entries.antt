-- What the entries of a layer mean over the coins below it (Bitcoin Core's flags DIRTY and FRESH).
use Rattle.std.specs.Prelude.{◌≡◌, List, [], ◌∷◌, Option, None, Some}
use Rattle.std.specs.Map.{lookup}
use Rattle.std.specs.BTreeMap.{is_at}
use Rattle.std.specs.FinMap as map
use Rattle.txn.specs.declared.outpoint.OutPoint.{OutPoint}
use Rattle.coins.specs.declared.entry.CacheEntry.{CacheEntry}
use Rattle.coins.specs.declared.entry.CacheEntry.TheVariants.{Clean, Dirty, Fresh}
use Rattle.coins.specs.Coins.{Coin, Coins, outpoint_cmp, put}
use Rattle.coins.specs.Changes.{Changes}

abbrev pub Entries : Type 0
Entries = List (OutPoint × CacheEntry)

-- the coin at an outpoint with this entry, by the coin there below
abbrev pub stands : CacheEntry → Option Coin → Option Coin
stands Clean below = below
stands (Dirty coin) below = coin
stands (Fresh coin) below = Some coin

-- the coins with these entries over those below
unfoldable pub over : Coins → Entries → Coins
over m [] = m
over m (e ∷ es) = put (over m es) e.0 (stands e.1 (map.get m e.0))

-- the entry at an outpoint
abbrev pub entry_at : Entries → OutPoint → Option CacheEntry
entry_at es q = lookup (is_at (outpoint_cmp q)) es

-- where an entry is fresh, there is no coin below
abbrev pub MarkHolds : Option CacheEntry → Option Coin → Type 0
MarkHolds None below = Unit {0}
MarkHolds (Some Clean) below = Unit {0}
MarkHolds (Some (Dirty coin)) below = Unit {0}
MarkHolds (Some (Fresh coin)) below = below ≡ None

pub record IsSound (m : Coins) (es : Entries) : Type 0 where
  pub marks : (q : OutPoint) → MarkHolds (entry_at es q) (map.get m q)

-- the coin that an entry holds
abbrev pub own_coin : Option CacheEntry → Option Coin
own_coin None = None
own_coin (Some Clean) = None
own_coin (Some (Dirty coin)) = coin
own_coin (Some (Fresh coin)) = Some coin

-- the list of changes that entries name, each by the coin that it holds
abbrev pub named : Entries → Changes
named [] = []
named (e ∷ es) = (e.0, own_coin (Some e.1)) ∷ named es
