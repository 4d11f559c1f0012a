-- The bound on all coins.
use Rattle.std.specs.Prelude.{◌≡◌, ℕ, zero, suc, ◌+◌, ◌<◌, ℤ, pos, ◌+ℤ◌, ◌≤ℤ◌, List, length, None}
use Rattle.model.specs.Rules.{Rules}
use Rattle.model.specs.Replay.{Ledger, replay}

-- of the heights 1 to n
unfoldable pub subsidies : (ℕ → ℕ) → ℕ → ℕ
subsidies subsidy zero = 0
subsidies subsidy (suc n) = subsidies subsidy n + subsidy (suc n)

-- what the bound needs of coins: without any the total is 0, and a block without a fault raises their total by at
-- most the subsidy of its height
pub record IsBounded {B I C : Type 0} (r : Rules B I) (ledger : Ledger B C) (total : C → ℤ) (subsidy : ℕ → ℕ) : Type 0 where
  pub opens : total ledger.empty ≡ pos 0
  pub raises : (older : List B) (b : B) → 0 < length older → r.alone_fault b ≡ None → r.connect_fault older b ≡ None
      → total (ledger.after (replay ledger older) b (length older)) ≤ℤ (total (replay ledger older) +ℤ pos (subsidy (length older)))
