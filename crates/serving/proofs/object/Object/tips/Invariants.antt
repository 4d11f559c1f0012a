use Rattle.std.proofs.Common.{◌≡◌, ◌++◌, take}
use Rattle.std.specs.List.{flat_map}
use Rattle.serving.specs.inside.Front.{tip_tokens}
use Rattle.serving.proofs.object.Object.tips.Given as goal

abbrev pub invariant-loop-tip : goal.invariant-loop-tip
invariant-loop-tip l = record {
  before : l.self.before ≡ l.fn.self.before;
  tokens : l.self.tokens ≡ l.fn.self.tokens ++ flat_map tip_tokens (take l.tip-index l.tips);
}
