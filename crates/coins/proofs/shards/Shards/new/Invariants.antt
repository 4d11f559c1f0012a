use Rattle.std.proofs.Common.{◌≡◌, length}
use Rattle.coins.proofs.ManyMaps.{AreEmpty}
use Rattle.coins.proofs.shards.Shards.new.Given as goal

abbrev pub invariant-loop : goal.invariant-loop
invariant-loop l = record {
  count : length l.maps.items ≡ l.counter;
  empty : AreEmpty l.maps.items;
}
