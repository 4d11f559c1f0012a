use Rattle.lanes.proofs.Vectors.{itself, of_both}
use Rattle.sha2.specs.Sha256.{add32}
use Rattle.lanes.proofs.words.scheduled.Goals as goal

pub returns : goal.returns
returns c =
    let seven = itself c.args.seven c.fits-seven.0 in
    let sixteen = itself c.args.sixteen c.fits-sixteen.0 in
    of_both add32 (of_both add32 (of_both add32 c.lower_sigma1.ensures seven) c.lower_sigma0.ensures) sixteen
