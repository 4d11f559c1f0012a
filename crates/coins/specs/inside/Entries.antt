-- What the calls of a layer do to its entries.
use Rattle.std.specs.Prelude.{◌≡◌, Bool, true, false, if◌then◌else◌, Option, None, Some, IsSome}
use Rattle.std.specs.List.{AllByRecursion}
use Rattle.txn.specs.declared.outpoint.OutPoint.{OutPoint}
use Rattle.coins.specs.declared.entry.CacheEntry.{CacheEntry}
use Rattle.coins.specs.declared.entry.CacheEntry.TheVariants.{Clean, Dirty, Fresh}
use Rattle.coins.specs.Coins.{Coin, same}
use Rattle.coins.specs.Entries.{Entries, entry_at, stands}

-- fs are es with this entry, or none, at an outpoint
pub record Written (es fs : Entries) (k : OutPoint) (e : Option CacheEntry) : Type 0 where
  pub at : (q : OutPoint) → entry_at fs q ≡ (if same k q then e else entry_at es q)

-- the entry of a coin that is added: a dirty one isn't fresh, for a coin may stand below
abbrev pub added_entry : Option CacheEntry → Coin → CacheEntry
added_entry None coin = Fresh coin
added_entry (Some Clean) coin = Fresh coin
added_entry (Some (Dirty before)) coin = Dirty (Some coin)
added_entry (Some (Fresh before)) coin = Fresh coin

abbrev pub is_fresh : Option CacheEntry → Bool
is_fresh None = false
is_fresh (Some Clean) = false
is_fresh (Some (Dirty coin)) = false
is_fresh (Some (Fresh coin)) = true

-- what stands where there is this entry, or none, by what stands there below
abbrev pub stands_at : Option CacheEntry → Option Coin → Option Coin
stands_at None below = below
stands_at (Some e) below = stands e below

-- the entry after the coin that stands there is taken, by what stands below: a fresh one is dropped
abbrev pub entry_without_coin : Option CacheEntry → Option Coin → Option CacheEntry
entry_without_coin None None = None
entry_without_coin None (Some coin) = Some (Dirty None)
entry_without_coin (Some Clean) None = Some Clean
entry_without_coin (Some Clean) (Some coin) = Some (Dirty None)
entry_without_coin (Some (Dirty before)) below = Some (Dirty None)
entry_without_coin (Some (Fresh before)) below = None

-- an entry stays, or is clean where there was none
abbrev pub Readied : Option CacheEntry → Option CacheEntry → Type 0
Readied None None = Unit {0}
Readied None (Some Clean) = Unit {0}
Readied None (Some (Dirty coin)) = ⊥
Readied None (Some (Fresh coin)) = ⊥
Readied (Some e) o = o ≡ Some e

pub record AreReadied (es fs : Entries) : Type 0 where
  pub at : (q : OutPoint) → Readied (entry_at es q) (entry_at fs q)

-- es has an entry at each outpoint that has one among ws
pub record HasRoom (es ws : Entries) : Type 0 where
  pub all : AllByRecursion (λ e. IsSome (entry_at es e.0)) ws

-- the entry after one of the layer above is laid over it
abbrev pub merge_entry : Option CacheEntry → CacheEntry → Option CacheEntry
merge_entry o Clean = o
merge_entry o (Dirty None) = if is_fresh o then None else Some (Dirty None)
merge_entry o (Dirty (Some coin)) = Some (if is_fresh o then Fresh coin else Dirty (Some coin))
merge_entry o (Fresh coin) = Some (added_entry o coin)

abbrev pub merge_entry_at : Option CacheEntry → Option CacheEntry → Option CacheEntry
merge_entry_at o None = o
merge_entry_at o (Some e) = merge_entry o e
