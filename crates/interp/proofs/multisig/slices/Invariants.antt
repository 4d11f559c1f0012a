use Rattle.std.proofs.Common.{◌≡◌, ◌-◌, take, drop}
use Rattle.script.specs.Removal.{bytes_of}
use Rattle.interp.proofs.multisig.slices.Given as goal

abbrev pub invariant-loop-i : goal.invariant-loop-i
invariant-loop-i l = bytes_of l.slices.items ≡ take (l.i - l.from) (drop l.from l.stack)
