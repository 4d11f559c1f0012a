use Rattle.std.proofs.Common.{◌≡◌, true, false, sym, ap, ◌∙◌, arith}
use Rattle.txn.specs.Check.{has_twice, same_outpoint}
use Rattle.txn.specs.laws.Check.{has_twice-permuted}
use Rattle.txn.proofs.OutpointOrder.{none_twice, neighbours, short}
use Rattle.txn.proofs.check_transaction.has_twice.Goals as goal

pub returns-then-inputs-lt2-clause-twice : goal.returns-then-inputs-lt2-clause-twice
returns-then-inputs-lt2-clause-twice c = sym (short c.args.inputs.now (omega arith))

pub returns-then-eq-clause-twice : goal.returns-then-eq-clause-twice
returns-then-eq-clause-twice c =
    let ps = c.sort_unstable.new.self.items in
    let a = c.index.result.now in
    let b = c.index-in-loop-later.result.now in
    let same : same_outpoint a b ≡ true = sym c.eq.ensures ∙ c.if-eq.true in
    let found : has_twice ps ≡ true = neighbours ps c.loop-later.later a b (omega arith) (omega arith) c.index.ensures c.index-in-loop-later.ensures same in
    sym found ∙ has_twice-permuted c.in_ok-outpoints.outpoints.items ps c.sort_unstable.ensures.permutation ∙ ap has_twice c.in_ok-outpoints.ensures

pub returns-clause-twice : goal.returns-clause-twice
returns-clause-twice c =
    let ps = c.sort_unstable.new.self.items in
    let none : has_twice ps ≡ false = none_twice ps c.sort_unstable.ensures.sorted (λ k d lt. c.loop-later.invariant k d (omega arith)) in
    sym none ∙ has_twice-permuted c.in_ok-outpoints.outpoints.items ps c.sort_unstable.ensures.permutation ∙ ap has_twice c.in_ok-outpoints.ensures
