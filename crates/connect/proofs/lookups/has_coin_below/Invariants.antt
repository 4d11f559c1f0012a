use Rattle.std.proofs.Common.{◌≡◌, ◌-◌, map}
use Rattle.std.specs.List.{list_any, range_with_len}
use Rattle.undo.specs.Effect.{outpoint_at}
use Rattle.connect.specs.Faults.{has_coin}
use Rattle.connect.proofs.lookups.has_coin_below.Given as goal

abbrev pub invariant-loop-index : goal.invariant-loop-index
invariant-loop-index g l = list_any (has_coin l.layer.coins) (map (outpoint_at l.id) (range_with_len l.index (l.count - l.index))) ≡ list_any (has_coin l.layer.coins) (map (outpoint_at l.id) (range_with_len 0 l.count))
