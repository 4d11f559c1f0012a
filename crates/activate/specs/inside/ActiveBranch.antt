-- Words for what is kept of the active branch. No public clause needs them.
use Rattle.std.specs.Prelude.{ℕ, ◌-◌, List, length, drop}
use Rattle.block.specs.declared.block.Block.{Block}
use Rattle.tree.specs.Branches.{Blocks, branch, blocks_at}
use Rattle.tree.specs.MedianTime.{median_time_past}
use Rattle.tree.specs.Names.{names}

-- the last n of a list, or all where it has fewer
unfoldable pub last_of : {A : Type 0} → ℕ → List A → List A
last_of n l = drop (length l - n) l

-- the median time past of the block at a place
abbrev pub median_at : Blocks Block → ℕ → ℕ
median_at t p = median_time_past (blocks_at names t (branch t p))
