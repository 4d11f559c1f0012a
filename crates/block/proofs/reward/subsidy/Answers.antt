use Rattle.std.proofs.Common.{◌/◌, ◌^◌}
use Rattle.std.proofs.lemmas.Bool.{lt-ltb}
use Rattle.block.proofs.Halves.{halved_is, small_quotient}
use Rattle.block.proofs.reward.subsidy.Goals as goal

pub returns : goal.returns
returns c = rw (lt-ltb (c.args.height / 150) 64 c.if-halvings-ge64.false, halved_is (c.args.height / 150) 5000000000) (small_quotient (2 ^ (c.args.height / 150)))
