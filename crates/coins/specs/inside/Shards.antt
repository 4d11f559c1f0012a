-- Coins in many maps, by the first bits of their ids.
use Rattle.std.specs.Prelude.{◌≡◌, ℕ, ◌+◌, ◌*◌, ◌/◌, ◌%◌, ◌<◌, true, List, [], ◌∷◌, ◌++◌, length, is_some}
use Rattle.std.specs.List.{slice_index}
use Rattle.std.specs.BTreeMap.{BTreeMap}
use Rattle.std.specs.FinMap as map
use Rattle.txn.specs.declared.outpoint.OutPoint.{OutPoint}
use Rattle.coins.specs.Coins.{Coin, Coins}
use Rattle.coins.specs.laws.Lookups.{entry_for}

abbrev pub Maps : Type 0
Maps = List (BTreeMap OutPoint Coin)

-- a coin that comes where one map holds so many, or more, has many maps opened
abbrev pub many_from : ℕ
many_from = 102400

-- the place of the map that an outpoint's coin stands in: the id's first 13 bits, so that the maps follow one another
-- as their outpoints do
abbrev pub place : OutPoint → ℕ
place q = (slice_index q.id.0 0 * 256 + slice_index q.id.0 1) / 8 % 8192

-- the entries of all maps
abbrev pub gathered : Maps → List (OutPoint × Coin)
gathered [] = []
gathered (m ∷ ms) = m.entries ++ gathered ms

-- the coins of all maps
abbrev pub together : Maps → Coins
together ms = map.from_entries (gathered ms)

-- each of these maps, the first at this place, has outpoints of its place alone
abbrev pub HaveTheirOwn : ℕ → Maps → Type 0
HaveTheirOwn i [] = Unit {0}
HaveTheirOwn i (m ∷ ms) = ((q : OutPoint) → is_some (entry_for m.entries q) ≡ true → place q ≡ i) × HaveTheirOwn (i + 1) ms

pub record AreShards (ms : Maps) : Type 0 where
  pub count : length ms ≡ 8192
  pub own : HaveTheirOwn 0 ms

-- the bytes that tell the place are bytes
abbrev pub IsOfBytes : OutPoint → Type 0
IsOfBytes q = (slice_index q.id.0 0 < 256) × (slice_index q.id.0 1 < 256)

-- each outpoint that has a coin is of such
abbrev pub AreOfBytes : Coins → Type 0
AreOfBytes m = (q : OutPoint) → is_some (map.get m q) ≡ true → IsOfBytes q
