use Rattle.std.proofs.Common.{◌≡◌, ◌++◌, sym, ◌∙◌}
use Rattle.std.proofs.lemmas.List.{take-append-drop}
use Rattle.block.proofs.Highest.{zero_below, as_test}
use Rattle.block.proofs.target.meets_target.Goals as goal

pub returns-then-top-eq-TARGET_TOP-clause-target : goal.returns-then-top-eq-TARGET_TOP-clause-target
returns-then-top-eq-TARGET_TOP-clause-target c =
    let whole : c.in_range-bytes.result.now ≡ c.split_at.result.0.now ++ c.split_at.result.1.now = rw (c.split_at.ensures.front, c.split_at.ensures.back) (sym (take-append-drop 29 c.in_range-bytes.result.now)) in
    let k = zero_below c.args.id.now.0 c.split_at.result.0.now c.split_at.result.1.now c.read_uint-top.result (sym c.in_range-bytes.ensures.same ∙ whole) c.split_at.ensures.front_len c.read_uint-top.ensures c.if-top-eq-TARGET_TOP.true in
    (λ h. k.0 (sym c.is_zero.ensures ∙ h), λ h. c.is_zero.ensures ∙ k.1 h)

pub returns-then-top-eq-TARGET_TOP-clause-test : goal.returns-then-top-eq-TARGET_TOP-clause-test
returns-then-top-eq-TARGET_TOP-clause-test c = as_test _ _ _ (returns-then-top-eq-TARGET_TOP-clause-target c)
