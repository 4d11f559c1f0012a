use Rattle.std.proofs.Common.{◌≡◌, ◌-◌, false, map}
use Rattle.std.specs.List.{list_any, range_with_len}
use Rattle.undo.specs.Effect.{outpoint_at}
use Rattle.connect.specs.Faults.{has_coin}
use Rattle.connect.proofs.lookups.has_coin_above.Given as goal

abbrev pub invariant-loop-index : goal.invariant-loop-index
invariant-loop-index g l = record {
  below : list_any (has_coin l.layer.base) (map (outpoint_at l.id) (range_with_len l.index (l.count - l.index))) ≡ false;
  rest : list_any (has_coin l.layer.coins) (map (outpoint_at l.id) (range_with_len l.index (l.count - l.index))) ≡ list_any (has_coin l.layer.coins) (map (outpoint_at l.id) (range_with_len 0 l.count));
}
