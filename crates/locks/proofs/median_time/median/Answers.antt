use Rattle.std.proofs.Common.{◌/◌, length, get_or, subst, refl, arith}
use Rattle.std.specs.List.Sorted.{IsPermutation}
use Rattle.std.proofs.lemmas.List.Sorted.{IsNonDecreasingBy-from_sort}
use Rattle.locks.specs.laws.MedianTime.{one_median}
use Rattle.locks.proofs.Middle.{middle}
use Rattle.locks.proofs.median_time.median.Goals as goal

pub returns : goal.returns
returns c =
    let times = c.args.times.now in
    let sorted = c.sort_unstable.new.self in
    let moved : IsPermutation times sorted = subst (λ t. IsPermutation t sorted) c.copy_from_slice.ensures.after c.sort_unstable.ensures.permutation in
    let m = middle times sorted (length times / 2) moved (IsNonDecreasingBy-from_sort (λ x. x) sorted c.sort_unstable.ensures.sorted) refl (omega (arith, c.requires.some)) in
    record { middle = m; value = one_median times (get_or sorted (length times / 2) 0) m }
