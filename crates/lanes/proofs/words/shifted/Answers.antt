use Rattle.std.proofs.Common.{◌/◌, ◌^◌, ℕ}
use Rattle.lanes.proofs.Vectors.{itself, everywhere, of_both}
use Rattle.lanes.proofs.words.shifted.Goals as goal

pub returns : goal.returns
returns c = of_both (λ (n by : ℕ). n / 2 ^ by) (itself c.args.x c.fits-x.0) (everywhere c.args.by)
