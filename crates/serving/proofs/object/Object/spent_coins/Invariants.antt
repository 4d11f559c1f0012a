use Rattle.std.proofs.Common.{◌≡◌, ◌++◌, take}
use Rattle.std.specs.List.{flat_map}
use Rattle.serving.specs.inside.Front.{spent_tokens}
use Rattle.serving.proofs.object.Object.spent_coins.Given as goal

abbrev pub invariant-loop-coin : goal.invariant-loop-coin
invariant-loop-coin l = record {
  before : l.self.before ≡ l.fn.self.before;
  tokens : l.self.tokens ≡ l.fn.self.tokens ++ flat_map spent_tokens (take l.coin-index l.coins);
}
