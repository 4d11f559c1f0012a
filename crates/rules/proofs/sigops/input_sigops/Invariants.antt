use Rattle.std.proofs.Common.{◌≡◌, ◌-◌, ◌^◌, take, min, sum_by}
use Rattle.script.specs.Signatures.{sigops}
use Rattle.script.specs.declared.signatures.Counting.TheVariants.{Plain}
use Rattle.rules.proofs.sigops.input_sigops.Given as goal

abbrev pub invariant-loop-input : goal.invariant-loop-input
invariant-loop-input l = l.sum ≡ min (sum_by (λ input. sigops Plain input.script) (take l.input-index l.inputs)) (2 ^ 128 - 1)
