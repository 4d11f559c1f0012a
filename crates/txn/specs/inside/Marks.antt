-- Transactions that are spelled one after the other.
use Rattle.std.specs.Prelude.{◌≡◌, ◌≤◌, ◌<◌, ℕ, ◌+◌, ◌-◌, List, length, take, drop, slice_index, slice_index_or}
use Rattle.txn.specs.Tx.{Tx}
use Rattle.txn.specs.Grammar.{transaction}

-- how many messages are hashed at once (`lanes::LANES`)
abbrev pub lanes : ℕ
lanes = 8

-- the first k transactions are spelled in the bytes, each from its mark to the next
pub record AreMarks (txs : List Tx) (bytes marks : List ℕ) (k : ℕ) : Type 0 where
  pub len : length marks ≡ lanes + 1
  pub last : slice_index marks k ≡ length bytes
  pub order : (l : ℕ) → l < k → slice_index marks l ≤ slice_index marks (l + 1)
  pub within : (l : ℕ) → l < k → slice_index marks (l + 1) ≤ length bytes
  pub each : (l : ℕ) (d : Tx) → l < k
      → take (slice_index marks (l + 1) - slice_index marks l) (drop (slice_index marks l) bytes) ≡ transaction.spell (slice_index_or txs l d)
