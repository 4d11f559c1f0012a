use Rattle.std.proofs.Common.{bit_and, bit_xor}
use Rattle.lanes.proofs.Vectors.{itself, of_both, said, fits_word}
use Rattle.lanes.proofs.Bitwise.{choice_short}
use Rattle.lanes.proofs.words.choice.Goals as goal

pub returns : goal.returns
returns c =
    let x = itself c.args.x c.fits-x.0 in
    let y = itself c.args.y c.fits-y.0 in
    let z = itself c.args.z c.fits-z.0 in
    said _ (of_both bit_xor z (of_both bit_and x (of_both bit_xor y z)))
    (λ l lt. choice_short _ _ _ (fits_word _ c.fits-x l lt) (fits_word _ c.fits-y l lt) (fits_word _ c.fits-z l lt))
