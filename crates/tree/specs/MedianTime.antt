-- BIP 113: the median time past of a branch, the newest block first.
use Rattle.std.specs.Prelude.{ℕ, List, map, take}
use Rattle.block.specs.declared.block.Block.{Block}
use Rattle.locks.specs.MedianTime.{median_of}

abbrev pub time_of : Block → ℕ
time_of b = b.header.time

-- the median of the times of its first block and of that block's up to ten nearest ancestors
unfoldable pub median_time_past : List Block → ℕ
median_time_past branch = median_of (take 11 (map time_of branch))
