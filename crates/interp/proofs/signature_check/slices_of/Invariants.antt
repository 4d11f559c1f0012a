use Rattle.std.proofs.Common.{◌≡◌, take}
use Rattle.script.specs.Removal.{bytes_of}
use Rattle.interp.proofs.signature_check.slices_of.Given as goal

abbrev pub invariant-loop-element : goal.invariant-loop-element
invariant-loop-element l = bytes_of l.slices.items ≡ take l.element-index l.elements
