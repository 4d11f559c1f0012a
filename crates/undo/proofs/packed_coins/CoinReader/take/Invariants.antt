use Rattle.std.proofs.Common.{◌≡◌, drop, take}
use Rattle.undo.proofs.packed_coins.CoinReader.take.Given as goal

abbrev pub invariant-loop : goal.invariant-loop
invariant-loop l = record {
  spent : l.spent ≡ take l.counter l.initial.self;
  left : l.self ≡ drop l.counter l.initial.self;
}
