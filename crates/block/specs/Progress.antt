-- How far a reader of a blk file has come.
use Rattle.std.specs.Prelude.{ℕ, List}
use Rattle.block.specs.declared.blk.Stage.{Stage}

pub record Progress : Type 0 where
  -- how many bytes of the source come before the next record
  pub offset : ℕ
  pub to_come : List ℕ
  -- how many reads of the source have failed
  pub failed : ℕ
  pub stage : Stage
