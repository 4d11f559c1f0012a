use Rattle.std.proofs.Common.{◌≡◌, ap, sym, ◌∙◌, arith}
use Rattle.std.specs.Ordering.{nat_cmp}
use Rattle.hash.specs.inside.Order.{word_at}
use Rattle.hash.proofs.ByteOrder.{decide, pass, last}
use Rattle.hash.proofs.order.order.Goals as goal

pub returns-then-x-y : goal.returns-then-x-y
returns-then-x-y c =
    let a = c.args.a.now in
    let b = c.args.b.now in
    c.cmp.ensures
    ∙ (λ i. nat_cmp (c.word-x.ensures i) (c.word-y.ensures i))
    ∙ decide a b c.told-a c.told-b c.fits-a c.fits-b 0 (omega arith) (λ e. c.if-x-y.true (c.word-x.ensures ∙ e ∙ sym c.word-y.ensures))

pub returns-then-x-y-2 : goal.returns-then-x-y-2
returns-then-x-y-2 c =
    let a = c.args.a.now in
    let b = c.args.b.now in
    c.cmp-then-x-y-2.ensures
    ∙ (λ i. nat_cmp (c.word-x-2.ensures i) (c.word-y-2.ensures i))
    ∙ decide a b c.told-a c.told-b c.fits-a c.fits-b 8 (omega arith) (λ e. c.if-x-y-2.true (c.word-x-2.ensures ∙ e ∙ sym c.word-y-2.ensures))
    ∙ pass a b c.told-a c.told-b c.fits-a c.fits-b 0 (omega arith) (sym c.word-x.ensures ∙ c.if-x-y.false ∙ c.word-y.ensures)

pub returns-then-x-y-3 : goal.returns-then-x-y-3
returns-then-x-y-3 c =
    let a = c.args.a.now in
    let b = c.args.b.now in
    c.cmp-then-x-y-3.ensures
    ∙ (λ i. nat_cmp (c.word-x-3.ensures i) (c.word-y-3.ensures i))
    ∙ decide a b c.told-a c.told-b c.fits-a c.fits-b 16 (omega arith) (λ e. c.if-x-y-3.true (c.word-x-3.ensures ∙ e ∙ sym c.word-y-3.ensures))
    ∙ pass a b c.told-a c.told-b c.fits-a c.fits-b 8 (omega arith) (sym c.word-x-2.ensures ∙ c.if-x-y-2.false ∙ c.word-y-2.ensures)
    ∙ pass a b c.told-a c.told-b c.fits-a c.fits-b 0 (omega arith) (sym c.word-x.ensures ∙ c.if-x-y.false ∙ c.word-y.ensures)

pub returns : goal.returns
returns c =
    let a = c.args.a.now in
    let b = c.args.b.now in
    c.cmp-2.ensures
    ∙ (λ i. nat_cmp (c.word.ensures i) (c.word-2.ensures i))
    ∙ sym (last a b c.told-a c.told-b c.fits-a c.fits-b)
    ∙ pass a b c.told-a c.told-b c.fits-a c.fits-b 16 (omega arith) (sym c.word-x-3.ensures ∙ c.if-x-y-3.false ∙ c.word-y-3.ensures)
    ∙ pass a b c.told-a c.told-b c.fits-a c.fits-b 8 (omega arith) (sym c.word-x-2.ensures ∙ c.if-x-y-2.false ∙ c.word-y-2.ensures)
    ∙ pass a b c.told-a c.told-b c.fits-a c.fits-b 0 (omega arith) (sym c.word-x.ensures ∙ c.if-x-y.false ∙ c.word-y.ensures)
