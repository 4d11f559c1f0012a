-- Why a node can't be opened.
use Rattle.std.specs.Prelude.{ℕ, ◌≤◌}
use Rattle.node.specs.declared.fault.OpenFault.{OpenFault}
use Rattle.node.specs.declared.fault.OpenFault.TheVariants.{Workers, Seats, Memory, Readers}

-- how many workers or seats a node may have: 1 to 16
abbrev pub IsAllowedCount : ℕ → Type 0
IsAllowedCount n = (1 ≤ n) × (n ≤ 16)

-- the first of these that holds
abbrev pub IsOpenFault : ℕ → ℕ → OpenFault → Type 0
IsOpenFault workers seats Workers = ¬ IsAllowedCount workers
IsOpenFault workers seats Seats = IsAllowedCount workers × ¬ IsAllowedCount seats
IsOpenFault workers seats Memory = IsAllowedCount workers × IsAllowedCount seats
IsOpenFault workers seats Readers = ⊥
