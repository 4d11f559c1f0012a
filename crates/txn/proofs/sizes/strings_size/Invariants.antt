use Rattle.std.proofs.Common.{◌≡◌, ℕ, List, ◌-◌, ◌^◌, length, take, min, sum_by}
use Rattle.wire.specs.Grammar.{sized_bytes}
use Rattle.txn.proofs.sizes.strings_size.Given as goal

abbrev pub invariant-loop-string : goal.invariant-loop-string
invariant-loop-string l = l.sum ≡ min (sum_by (λ (s : List ℕ). length (sized_bytes.spell s)) (take l.string-index l.strings)) (2 ^ 64 - 1)
