-- They are of the elements before this one.
use Rattle.std.proofs.Common.{◌≡◌, length, map, take}
use Rattle.ffi.proofs.evaluation.sizes_of.Given as goal

abbrev pub invariant-loop-element : goal.invariant-loop-element
invariant-loop-element l = l.sizes.items ≡ map (λ element. length element) (take l.element-index l.elements)
