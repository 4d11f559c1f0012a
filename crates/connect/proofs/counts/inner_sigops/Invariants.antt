use Rattle.std.proofs.Common.{◌≡◌, ◌-◌, ◌^◌, take, min, sum_by}
use Rattle.std.specs.List.{zip}
use Rattle.script.specs.Signatures.{p2sh_sigops}
use Rattle.connect.proofs.counts.inner_sigops.Given as goal

abbrev pub invariant-loop-index : goal.invariant-loop-index
invariant-loop-index l = l.sum ≡ min (sum_by (λ p. p2sh_sigops p.0.script p.1.script) (take l.index (zip l.tx.inputs l.coins))) (2 ^ 128 - 1)
