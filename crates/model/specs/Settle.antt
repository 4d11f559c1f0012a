-- The active block, and which blocks become seen or marked. All is decided on the whole state at once.
use Rattle.std.specs.Prelude.{ℕ, ◌==◌, Bool, not, ◌&&◌, ◌||◌, List}
use Rattle.std.specs.List.{list_any, find}
use Rattle.std.specs.Option.{unwrap_or}
use Rattle.tree.specs.Branches.{places, on, id_at}
use Rattle.tree.specs.State.{State, has_no_mark, beats, with_new_flags}
use Rattle.tree.specs.Tips as tree_tips
use Rattle.tree.specs.Tips.{TipOf}
use Rattle.model.specs.Rules.{Rules}
use Rattle.model.specs.Valid.{branch_connects, first_to_fail}

-- a passes, and nothing that passes is better
unfoldable pub is_best : (ℕ → Bool) → (ℕ → ℕ → Bool) → List ℕ → ℕ → Bool
is_best passes beats all a = passes a && not (list_any (λ b. passes b && beats b a) all)

module _ {B I : Type 0} (r : Rules B I) where
  -- usable, with a valid branch
  unfoldable pub can_be_active : State B → ℕ → Bool
  can_be_active s p = has_no_mark s p && branch_connects r s.blocks p

  -- the best such block
  unfoldable pub active : State B → ℕ
  active s = unwrap_or (find (is_best (can_be_active s) (beats s) (places s.blocks)) (places s.blocks)) 0

  -- usable, and the active block or better than it
  unfoldable pub is_candidate : State B → ℕ → Bool
  is_candidate s c = has_no_mark s c && ((c == active s) || beats s c (active s))

  unfoldable pub on_candidate : State B → ℕ → Bool
  on_candidate s x = list_any (λ c. is_candidate s c && on s.blocks c x) (places s.blocks)

  -- of each candidate's branch, the blocks before the first that doesn't connect become seen
  unfoldable pub becomes_seen : State B → ℕ → Bool
  becomes_seen s x = branch_connects r s.blocks x && on_candidate s x

  -- and that first one becomes marked
  unfoldable pub becomes_bad : State B → ℕ → Bool
  becomes_bad s x = first_to_fail r s.blocks x && on_candidate s x

  unfoldable pub settle : State B → State B
  settle s = with_new_flags s (becomes_bad s) (becomes_seen s)

  -- ---- what is read

  unfoldable pub best : State B → I
  best s = id_at r.names s.blocks (active s)

  abbrev pub tips : State B → List (TipOf I)
  tips s = tree_tips.tips r.names s (active s)
