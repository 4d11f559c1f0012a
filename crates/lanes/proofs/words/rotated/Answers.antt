use Rattle.std.proofs.Common.{bit_or, ◌/◌, ◌*◌, ◌-◌, ◌%◌, ◌^◌, ◌≡◌, ℕ, arith, refl}
use Rattle.lanes.proofs.Vectors.{itself, everywhere, of_both, said}
use Rattle.lanes.proofs.words.rotated.Goals as goal

pub returns : goal.returns
returns c =
    let x = itself c.args.x c.fits-x.0 in
    let by = c.args.by in
    let right : by % 32 ≡ by = omega arith in
    let left : (32 - by) % 32 ≡ 32 - by = omega arith in
    let low = of_both (λ (n k : ℕ). n / 2 ^ k) x (everywhere by) in
    let high = of_both (λ (n k : ℕ). n * 2 ^ k % 2 ^ 32) x (everywhere (32 - by)) in
    said _ (of_both bit_or low high) (λ l lt. rw (right, left) refl)
