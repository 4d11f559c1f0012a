use Rattle.std.proofs.Common.{◌≡◌, length, ◌∙◌, arith}
use Rattle.std.proofs.lemmas.List.{with_items_is}
use Rattle.block.specs.Merkle.{pair}
use Rattle.block.proofs.Tree.{above-even, above-length, above-odd}
use Rattle.block.proofs.root.go_up.Goals as goal

pub returns-then-len-eq0 : goal.returns-then-len-eq0
returns-then-len-eq0 c =
    let old = c.args.level.now in
    let len : c.len-len.result ≡ length old.items = omega (arith, c.len-len.ensures, c.as_mut_slice.ensures.len) in
    let paired = rw c.as_mut_slice.ensures.value at c.pairs.ensures in
    let same = with_items_is old c.pairs.new.level (omega (arith, above-length old.items c.pairs.new.level paired, c.as_mut_slice.ensures.len)) in
    (rw len at c.truncate.ensures.items) ∙ above-even old.items _ (same ∙ paired) (omega (arith, c.if-len-eq0.true, c.len-len.ensures))

pub returns-else-len-eq0 : goal.returns-else-len-eq0
returns-else-len-eq0 c =
    let old = c.args.level.now in
    let len : c.len-len.result ≡ length old.items = omega (arith, c.len-len.ensures, c.as_mut_slice.ensures.len) in
    let paired = rw c.as_mut_slice.ensures.value at c.pairs.ensures in
    let same = with_items_is old c.pairs.new.level (omega (arith, above-length old.items c.pairs.new.level paired, c.as_mut_slice.ensures.len)) in
    let last = rw len at c.index.ensures in
    (rw len at c.truncate-else-len-eq0.ensures.items)
    ∙ above-odd old.items _ c.pair.result c.index.result.now (same ∙ paired) (omega (arith, c.if-len-eq0.false, c.len-len.ensures))
    (c.pair.ensures ∙ (λ i. pair (last i) (last i)))
