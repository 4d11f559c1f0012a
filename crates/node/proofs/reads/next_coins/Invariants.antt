use Rattle.std.proofs.Common.{◌≡◌, length}
use Rattle.std.specs.Option.{option_copied}
use Rattle.node.specs.inside.CoinOrder.{Leads}
use Rattle.node.proofs.reads.next_coins.Given as goal

abbrev pub invariant-loop : goal.invariant-loop
invariant-loop l = Leads l.coins (option_copied l.above) l.list.items (option_copied l.last) × (length l.list.items ≡ l.counter)
