-- What the code's scripts run for.
use Rattle.std.specs.Prelude.{ℤ, Option}
use Rattle.std.specs.Option.{option_map}
use Rattle.interp.specs.Running.{Running}
use Rattle.interp.specs.declared.running.Running as code

-- the value that signatures sign
abbrev pub value_of : code.Running → Option ℤ
value_of r = option_map (λ w. w.1) r.witness

abbrev pub running_of : code.Running → Running
running_of r = record { tx = r.tx.now; input = r.input; flags = r.flags; value = value_of r }
