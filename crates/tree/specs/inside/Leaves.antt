-- The leaves: the blocks on which no other stands.
use Rattle.std.specs.Prelude.{◌≡◌, ℕ, suc, ◌==◌, ◌≤◌, nat_eq, nat_lt, Bool, not, ◌&&◌, List, [], ◌∷◌, length}
use Rattle.std.specs.List.{list_any, IsDistinct}
use Rattle.tree.specs.Branches.{Blocks}

module _ {B : Type 0} where
  -- each block stands on one that came before it
  abbrev pub AreInOrder : Blocks B → Type 0
  AreInOrder [] = Unit {0}
  AreInOrder (k ∷ older) = (k.parent ≤ length older) × AreInOrder older

  -- no block stands on p
  abbrev pub is_leaf : Blocks B → ℕ → Bool
  is_leaf t p = not (list_any (λ k. k.parent == p) t)

  -- these are the leaves, each once, in any order
  pub record AreLeaves (t : Blocks B) (leaves : List ℕ) : Type 0 where
    pub once : IsDistinct nat_eq leaves
    pub all : (p : ℕ) → list_any (nat_eq p) leaves ≡ (nat_lt p (suc (length t)) && is_leaf t p)
