-- What one try of a block marks and sees.
use Rattle.std.specs.Prelude.{ℕ, Bool, ◌&&◌}
use Rattle.tree.specs.Branches.{Blocks, on}
use Rattle.tree.specs.State.{State, with_new_flags}
use Rattle.model.specs.Rules.{Rules}
use Rattle.model.specs.Valid.{branch_connects, first_to_fail}

module _ {B I : Type 0} (r : Rules B I) where
  -- the first block of the branch of c that doesn't connect
  unfoldable pub fails_on : Blocks B → ℕ → ℕ → Bool
  fails_on t c x = first_to_fail r t x && on t c x

  -- those before it
  unfoldable pub passes_on : Blocks B → ℕ → ℕ → Bool
  passes_on t c x = branch_connects r t x && on t c x

  unfoldable pub state_after_try : State B → ℕ → State B
  state_after_try s c = with_new_flags s (fails_on s.blocks c) (passes_on s.blocks c)
