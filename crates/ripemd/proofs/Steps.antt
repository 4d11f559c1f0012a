-- Both lines, step by step.
use Rattle.std.proofs.Common.{◌≡◌, ℕ, ◌+◌, List, refl, sym, ap, ◌∙◌, add-one}
use Rattle.ripemd.specs.Line.{Line, left_line, right_line}
use Rattle.ripemd.specs.Block.{after_steps, line_step}
use Rattle.ripemd.specs.inside.Lines.{lines_after}
use Rattle.ripemd.specs.declared.state.State.{State}
use Rattle.ripemd.specs.declared.block.Lines.{Lines}

-- one step more
after_steps_next : (line : Line) (x : List ℕ) (h : State) (n : ℕ) → after_steps line x h (n + 1) ≡ line_step line x n (after_steps line x h n)
unfolding after_steps
after_steps_next line x h n = rw add-one refl

-- before the first step
pub lines_start : (x : List ℕ) (h : State) → let start : Lines = record { left = h; right = h } in start ≡ lines_after x h 0
unfolding after_steps
lines_start x h = refl

-- one step more of both lines
pub lines_next : (x : List ℕ) (h : State) (n : ℕ) (before : Lines) (l r : State) → before ≡ lines_after x h n → l ≡ line_step left_line x n before.left
    → r ≡ line_step right_line x n before.right → let next : Lines = record { left = l; right = r } in next ≡ lines_after x h (n + 1)
lines_next x h n before l r at el er =
    let next_left : l ≡ after_steps left_line x h (n + 1) = el ∙ ap (λ (b : Lines). line_step left_line x n b.left) at ∙ sym (after_steps_next left_line x h n) in
    let next_right : r ≡ after_steps right_line x h (n + 1) = er ∙ ap (λ (b : Lines). line_step right_line x n b.right) at ∙ sym (after_steps_next right_line x h n) in
    rw (next_left, next_right) refl

-- the same number of steps, spelled another way
pub lines_at : (x : List ℕ) (h : State) (n k : ℕ) (lines : Lines) → n ≡ k → lines ≡ lines_after x h n → lines ≡ lines_after x h k
lines_at x h n k lines e at = rw (← e) at
