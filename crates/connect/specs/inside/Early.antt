-- Where the earlier transactions of a block are found.
use Rattle.std.specs.Prelude.{◌≡◌, ℕ, List, slice_get}
use Rattle.std.specs.Option.{option_and_then}
use Rattle.std.specs.Map.{lookup}
use Rattle.std.specs.BTreeMap.{is_at}
use Rattle.hash.specs.declared.id.Id.{Id}
use Rattle.txn.specs.Tx.{Tx}
use Rattle.hash.specs.Id.{id_cmp}
use Rattle.connect.specs.Early.{with_id}

-- the entries are places among all transactions of the last of those before, by their ids
abbrev pub ArePlaces : List Tx → List Tx → List (Id × ℕ) → Type 0
ArePlaces all before entries = (id : Id) → option_and_then (slice_get all) (lookup (is_at (id_cmp id)) entries) ≡ with_id before id
