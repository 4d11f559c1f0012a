use Rattle.lanes.proofs.Vectors.{itself, of_both}
use Rattle.sha2.specs.Sha256.{add32}
use Rattle.lanes.proofs.words.sum.Goals as goal

pub returns : goal.returns
returns c = of_both add32 (itself c.args.x c.fits-x.0) (itself c.args.y c.fits-y.0)
