-- Which places a claim takes: each of the first claims eight, and those behind them one.
use Rattle.std.specs.Prelude.{ℕ, ◌+◌, ◌*◌, ◌-◌, ◌/◌, ltb, if◌then◌else◌}

-- how many claims take eight places each: the last 256 places, or some more, are left for others
abbrev pub wide : ℕ → ℕ
wide count = (count - 256) / 8

-- how many claims take all places
abbrev pub claims_in : ℕ → ℕ
claims_in count = count - 7 * wide count

-- the first place of a claim
abbrev pub begin_of : ℕ → ℕ → ℕ
begin_of count claim = if ltb claim (wide count) then 8 * claim else claim + 7 * wide count

-- the claim that takes a place
abbrev pub claim_of : ℕ → ℕ → ℕ
claim_of count place = if ltb place (8 * wide count) then place / 8 else place - 7 * wide count
