-- Rules in their order.
use Rattle.std.specs.Prelude.{Bool, if◌then◌else◌, List, [], ◌∷◌, Option, None, Some}
use Rattle.txn.specs.declared.reason.Reason.{Reason}

-- whether each rule is broken, and the reason that it gives
abbrev pub Rules : Type 0
Rules = List (Bool × Reason)

-- the reason of the first that is
abbrev pub first_broken : Rules → Option Reason
first_broken [] = None
first_broken (rule ∷ rules) = if rule.0 then Some rule.1 else first_broken rules
