use Rattle.std.proofs.Common.{bit_xor}
use Rattle.lanes.proofs.Vectors.{of_both}
use Rattle.lanes.proofs.words.lower_sigma1.Goals as goal

pub returns : goal.returns
returns c = of_both bit_xor (of_both bit_xor c.rotated.ensures c.rotated-2.ensures) c.shifted.ensures
