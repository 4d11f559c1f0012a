use Rattle.std.proofs.Common.{◌≡◌, ◌+◌, ◌-◌, ◌*◌, ◌/◌, ◌≤◌, ℕ, List, length, take, drop, ap, ◌∙◌, arith}
use Rattle.lanes.proofs.PaddedMessage.{block-inside, block-in_tail, count-few}
use Rattle.lanes.proofs.padded_blocks.block.Goals as goal

pub returns-then-i-whole : goal.returns-then-i-whole
returns-then-i-whole c = λ lt.
    let m : List ℕ = c.args.message.now in
    let i : ℕ = c.args.i in
    let n : i * 64 + 64 - i * 64 ≡ 64 = omega arith in
    c.copy_from_slice.ensures.after ∙ ap (λ (k : ℕ). take k (drop (i * 64) m)) n ∙ block-inside m i (omega (arith, c.if-i-whole.true))

pub returns-else-i-whole : goal.returns-else-i-whole
returns-else-i-whole c = λ lt.
    let m : List ℕ = c.args.message.now in
    let tail : List ℕ = c.args.tail.now in
    let i : ℕ = c.args.i in
    let q : ℕ = length m / 64 in
    let past : q ≤ i = omega (arith, c.if-i-whole.false) in
    let at : c.min-at.result ≡ i - q = omega (arith, c.min-at.ensures, lt, past, count-few m) in
    let n : c.min-at.result * 64 + 64 - c.min-at.result * 64 ≡ 64 = omega arith in
    c.copy_from_slice-else-i-whole.ensures.after ∙ (λ j. take (n j) (drop (at j * 64) tail)) ∙ block-in_tail m tail i c.requires past lt
