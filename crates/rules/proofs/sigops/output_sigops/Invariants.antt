use Rattle.std.proofs.Common.{◌≡◌, ◌-◌, ◌^◌, take, min, sum_by}
use Rattle.script.specs.Signatures.{sigops}
use Rattle.script.specs.declared.signatures.Counting.TheVariants.{Plain}
use Rattle.rules.proofs.sigops.output_sigops.Given as goal

abbrev pub invariant-loop-output : goal.invariant-loop-output
invariant-loop-output l = l.sum ≡ min (sum_by (λ output. sigops Plain output.script) (take l.output-index l.outputs)) (2 ^ 128 - 1)
