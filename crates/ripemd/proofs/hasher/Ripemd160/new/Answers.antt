use Rattle.std.proofs.Common.{rules}
use Rattle.ripemd.specs.Hasher.{Holds}
use Rattle.ripemd.proofs.hasher.Ripemd160.new.Goals as goal

pub returns : goal.returns
unfolding Holds
returns c = search rules
