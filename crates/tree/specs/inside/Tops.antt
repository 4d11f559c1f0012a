-- The tips as the program sorts them: by height downwards, then by arrival.
use Rattle.std.specs.Prelude.{ℕ, ◌-◌}
use Rattle.std.specs.declared.cmp.Ordering.{Ordering}
use Rattle.std.specs.Ordering.{nat_cmp, ordering_then}
use Rattle.tree.specs.declared.tip_order.Top.{Top}
use Rattle.tree.specs.Branches.{Blocks, height}
use Rattle.tree.specs.Limits.{max_blocks}

abbrev pub top_cmp : Top → Top → Ordering
top_cmp a b = ordering_then (nat_cmp a.depth b.depth) (nat_cmp a.place b.place)

abbrev pub top_at : {B : Type 0} → Blocks B → ℕ → Top
top_at t p = record { depth = max_blocks - height t p; place = p }
