use Rattle.std.proofs.Common.{bit_xor, bit_and, slice_index}
use Rattle.lanes.proofs.Vectors.{itself, of_both, said}
use Rattle.lanes.proofs.Bitwise.{majority_short}
use Rattle.lanes.proofs.words.majority.Goals as goal

pub returns : goal.returns
returns c =
    let x = itself c.args.x c.fits-x.0 in
    let y = itself c.args.y c.fits-y.0 in
    let z = itself c.args.z c.fits-z.0 in
    said _ (of_both bit_xor y (of_both bit_and (of_both bit_xor x y) (of_both bit_xor y z)))
    (λ l lt. majority_short (slice_index c.args.x l) (slice_index c.args.y l) (slice_index c.args.z l))
