use Rattle.std.proofs.Common.{◌≡◌, drop}
use Rattle.interp.specs.Elements.{truth}
use Rattle.interp.proofs.element.is_true.Given as goal

abbrev pub invariant-loop-i : goal.invariant-loop-i
invariant-loop-i l = truth l.bytes ≡ truth (drop l.i l.bytes)
