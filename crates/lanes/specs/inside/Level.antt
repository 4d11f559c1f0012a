-- A level of a Merkle tree while it is hashed.
use Rattle.std.specs.Prelude.{◌≡◌, ℕ, ◌+◌, ◌*◌, List, [], ◌++◌, length, take, drop, slice_index_or}
use Rattle.hash.specs.declared.id.Id.{Id}
use Rattle.lanes.specs.Level.{pair_ids}

-- the two ids of pair k, one after the other
abbrev pub pair_at : List Id → ℕ → List ℕ
pair_at ids k = (slice_index_or ids (2 * k) (record { 0 = [] })).0 ++ (slice_index_or ids (2 * k + 1) (record { 0 = [] })).0

-- k pairs stand hashed in the level's front, and the rest is as before
pub record IsPairedUpTo (before now : List Id) (k : ℕ) : Type 0 where
  pub len : length now ≡ length before
  pub front : take k now ++ pair_ids (drop (2 * k) before) ≡ pair_ids before
  pub back : drop k now ≡ drop k before
