-- A block's place.
use Rattle.std.specs.Prelude.{ℕ, ◌-◌, List, slice_index}
use Rattle.rules.specs.declared.in_force.InForce.{InForce}
use Rattle.rules.specs.Params.{at}
use Rattle.connect.specs.declared.context.Context.{Context}

pub record Setting : Type 0 where
  pub height : ℕ
  -- the median time past of its parent
  pub cutoff : ℕ
  -- those of its parent's branch by height, that of genesis first
  pub medians : List ℕ
  -- the rules of soft forks that are in force at its height
  pub rules : InForce

abbrev pub setting : Context → Setting
setting context = record { height = context.height; cutoff = context.cutoff; medians = context.medians.now; rules = at context.params.now context.height }

-- the median time past of the block below one of this height, or of genesis where it has none below
abbrev pub median_below : List ℕ → ℕ → ℕ
median_below medians height = slice_index medians (height - 1)
