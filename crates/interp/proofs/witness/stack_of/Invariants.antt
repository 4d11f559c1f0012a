use Rattle.std.proofs.Common.{◌≡◌, take}
use Rattle.interp.proofs.witness.stack_of.Given as goal

abbrev pub invariant-loop-string : goal.invariant-loop-string
invariant-loop-string l = l.elements.items ≡ take l.string-index l.strings
