-- What the functions that list and lay changes do.
use Rattle.std.specs.Prelude.{◌≡◌, ◌⊎◌, true, if◌then◌else◌, List, [], ◌∷◌, Option, is_some}
use Rattle.std.specs.Map.{lookup}
use Rattle.std.specs.BTreeMap.{is_at}
use Rattle.std.specs.FinMap as map
use Rattle.txn.specs.declared.outpoint.OutPoint.{OutPoint}
use Rattle.coins.specs.Coins.{Coin, Coins, outpoint_cmp, put, same}
use Rattle.coins.specs.declared.entry.CacheEntry.{CacheEntry}
use Rattle.coins.specs.declared.entry.CacheEntry.TheVariants.{Clean, Dirty, Fresh}
use Rattle.coins.specs.Entries.{Entries}
use Rattle.coins.specs.Changes.{Changes}

-- where this stands below, an entry changes nothing
abbrev pub IsAsBelow : CacheEntry → Option Coin → Type 0
IsAsBelow Clean below = Unit {0}
IsAsBelow (Dirty coin) below = coin ≡ below
IsAsBelow (Fresh coin) below = ⊥

-- fs are, of these entries, those that change what is below
unfoldable pub AreChanging : Coins → Entries → Entries → Type 0
AreChanging m [] fs = fs ≡ []
AreChanging m (e ∷ es) fs =
    (IsAsBelow e.1 (map.get m e.0) × AreChanging m es fs)
    ⊎ ((gs : Entries) × (fs ≡ e ∷ gs) × (¬ IsAsBelow e.1 (map.get m e.0)) × AreChanging m es gs)

-- the changes that bring a coin
abbrev pub comers : Changes → Changes
comers [] = []
comers (c ∷ cs) = if is_some c.1 then c ∷ comers cs else comers cs

-- the changes that take one away
abbrev pub goers : Changes → Changes
goers [] = []
goers (c ∷ cs) = if is_some c.1 then goers cs else c ∷ goers cs

-- n becomes m again where what was there before each write is put back, the last one first; each has a coin there until then
abbrev pub Undoes : Coins → Coins → Changes → Type 0
Undoes m n [] = n ≡ m
Undoes m n (c ∷ cs) = (is_some (map.get n c.0) ≡ true) × Undoes m (put n c.0 c.1) cs

-- fs are es with this, or nothing, at an outpoint
pub record Changed (es fs : List (OutPoint × Coin)) (k : OutPoint) (w : Option Coin) : Type 0 where
  pub at : (q : OutPoint) → lookup (is_at (outpoint_cmp q)) fs ≡ (if same k q then w else lookup (is_at (outpoint_cmp q)) es)
