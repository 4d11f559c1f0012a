use Rattle.std.proofs.Common.{◌≡◌, ℕ, ◌+◌, ◌-◌, List, [], ◌∷◌, ◌++◌, length, reverse, take, drop, sym, ap, ◌∙◌, arith}
use Rattle.std.proofs.lemmas.List.{take_rest}
use Rattle.locks.specs.MedianTime.{median_of}
use Rattle.reference.specs.inside.Replay.{medians_in}
use Rattle.reference.proofs.BranchReplay.{medians_more}
use Rattle.reference.proofs.branch_replay.medians.Goals as goal

pub loop-height-preserved : goal.loop-height-preserved
loop-height-preserved c =
    let l = c.args.times.now in
    let h = c.loop-height.height in
    let t = c.loop-height-test.true in
    let k : length l - (h + 1) ≡ length l - 1 - h = omega arith in
    let j : length l - h ≡ length l - 1 - h + 1 = omega arith in
    let new : ◌≡◌ {A = List ℕ} c.loop-height.medians.items (reverse (medians_in (drop (length l - 1 - h + 1) l))) = c.loop-height.invariant ∙ ap (λ (n : ℕ). reverse (medians_in (drop n l))) j in
    let m : c.median_from.result ≡ median_of (take 11 (drop (length l - 1 - h) l)) = c.median_from.ensures ∙ ap (λ (k : List ℕ). median_of (take 11 k)) (take_rest l (length l - 1 - h)) in
    c.in_ok-push.ensures.items
    ∙ ap (λ (k : List ℕ). k ++ c.median_from.result ∷ []) new
    ∙ ap (λ (x : ℕ). reverse (medians_in (drop (length l - 1 - h + 1) l)) ++ x ∷ []) m
    ∙ medians_more l (length l - 1 - h) (omega arith)
    ∙ ap (λ (n : ℕ). reverse (medians_in (drop n l))) (sym k)
