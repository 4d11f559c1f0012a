use Rattle.std.proofs.Common.{◌≡◌, ◌∙◌, ◌+◌, ◌-◌, slice_get, drop, take, ap, sym, arith}
use borrow.Author.Tests.{eqb-true}
use Rattle.interp.proofs.Pairs.{answer-none, answer-empty}
use Rattle.interp.proofs.multisig.answer.Goals as goal

pub returns-in_default : goal.returns-in_default
returns-in_default g c =
    let many : c.args.counts.0 + 2 + c.args.counts.1 - (c.args.counts.0 + 2) ≡ c.args.counts.1 = omega arith in
    answer-none _ _ c.args.code.now c.args.stack.now c.args.counts c.in_ok-signatures.signatures.items
    (c.in_ok-signatures.ensures ∙ ap (λ n. take n (drop (c.args.counts.0 + 2) c.args.stack.now)) many)
    (c.in_default.ensures.value ∙ ap (λ slices. slice_get slices 0) c.deref.ensures.value)

pub returns-then-is_empty : goal.returns-then-is_empty
returns-then-is_empty g c =
    let many : c.args.counts.0 + 2 + c.args.counts.1 - (c.args.counts.0 + 2) ≡ c.args.counts.1 = omega arith in
    answer-empty _ _ c.args.code.now c.args.stack.now c.args.counts c.in-Some.first.now c.in_ok-signatures.signatures.items
    (c.in_ok-signatures.ensures ∙ ap (λ n. take n (drop (c.args.counts.0 + 2) c.args.stack.now)) many)
    (c.in-Some.ensures.value ∙ ap (λ slices. slice_get slices 0) c.deref.ensures.value)
    (eqb-true _ _ (sym c.if-is_empty.ensures))
