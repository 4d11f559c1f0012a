-- The medians time past of a branch.
use Rattle.std.proofs.Common.{◌≡◌, suc, List, [], ◌∷◌, length, refl, ap}
use Rattle.block.specs.declared.block.Block.{Block}
use Rattle.model.specs.Regtest.{medians_of}

pub length-medians : (bs : List Block) → length (medians_of bs) ≡ length bs
length-medians [] = refl
length-medians (b ∷ older) = ap suc (length-medians older)
