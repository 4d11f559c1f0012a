-- Which rules of soft forks are in force from which heights on (Bitcoin Core's `Consensus::Params`).
use Rattle.std.specs.Prelude.{Bool, false, ◌&&◌, ◌||◌, ℤ, pos, int_lt, ℕ, nat_le, Option, Some, None}
use Rattle.std.specs.Option.{option_map_or}
use Rattle.rules.specs.declared.deployment.Deployment.{Deployment}
use Rattle.rules.specs.declared.deployment.Deployment.TheVariants.{Bip34, Bip65, Bip66, Csv, NullDummy}
use Rattle.rules.specs.declared.in_force.InForce.{InForce}
use Rattle.rules.specs.declared.params.Params.{Params}

-- below version 2, which came with BIP 34, below 3, with BIP 66, or below 4, with BIP 65
abbrev pub is_outdated : InForce → ℤ → Bool
is_outdated rules version =
    (rules.bip34 && int_lt version (pos 2))
    || (rules.bip66 && int_lt version (pos 3))
    || (rules.bip65 && int_lt version (pos 4))

-- ---- heights
-- from which height on (`DeploymentHeight`); none is never
abbrev pub height_of : Params → Deployment → Option ℕ
height_of params Bip34 = Some params.bip34
height_of params Bip65 = Some params.bip65
height_of params Bip66 = Some params.bip66
height_of params Csv = Some params.csv
height_of params NullDummy = params.nulldummy

-- the same heights, but for this one
abbrev pub with_height : Params → Deployment → ℕ → Params
with_height params Bip34 height = record params { bip34 = height }
with_height params Bip65 height = record params { bip65 = height }
with_height params Bip66 height = record params { bip66 = height }
with_height params Csv height = record params { csv = height }
with_height params NullDummy height = record params { nulldummy = Some height }

-- of BIP 34, 65 and 66, and of BIPs 68, 112 and 113; what came later is never in force
abbrev pub of_heights : ℕ → ℕ → ℕ → ℕ → Params
of_heights bip34 bip65 bip66 csv = record { bip34 = bip34; bip65 = bip65; bip66 = bip66; csv = csv; nulldummy = None }

-- these from height 1 on
abbrev pub regtest : Params
regtest = of_heights 1 1 1 1

-- ---- what is in force for a block
-- a block whose height is at least the fork's (`DeploymentActiveAt`)
abbrev pub in_force : Params → ℕ → Deployment → Bool
in_force params height deployment = option_map_or (λ from. nat_le from height) (height_of params deployment) false

-- by the block's height
abbrev pub at : Params → ℕ → InForce
at params height = record {
  bip34 = in_force params height Bip34;
  bip65 = in_force params height Bip65;
  bip66 = in_force params height Bip66;
  csv = in_force params height Csv;
  nulldummy = in_force params height NullDummy;
}
