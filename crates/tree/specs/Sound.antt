-- What the theorems speak of.
use Rattle.std.specs.Prelude.{◌≡◌, ℕ, ◌<◌, ◌≤◌, Bool, true, false, ◌⊎◌}
use Rattle.tree.specs.Branches.{has, height}
use Rattle.tree.specs.State.{State, rank, beats}

-- of the places up to n, a passes, and it is better than all others that pass
pub record IsBest {B : Type 0} (s : State B) (passes : ℕ → Bool) (n a : ℕ) : Type 0 where
  pub kept : a ≤ n
  pub can : passes a ≡ true
  pub tops : (b : ℕ) → b ≤ n → passes b ≡ true → (b ≡ a) ⊎ (beats s a b ≡ true)

-- a is higher; or as high, and precious where b isn't, or both are and a was called later; or as high,
-- neither is, and a came earlier
abbrev pub Precedes : {B : Type 0} → State B → ℕ → ℕ → Type 0
Precedes s a b =
    (height s.blocks b < height s.blocks a)
    ⊎ ((height s.blocks a ≡ height s.blocks b)
    × (((has s.precious a ≡ true) × (has s.precious b ≡ false))
    ⊎ (((has s.precious a ≡ true) × (has s.precious b ≡ true) × (rank s b < rank s a))
    ⊎ ((has s.precious a ≡ false) × (has s.precious b ≡ false) × (a < b)))))
