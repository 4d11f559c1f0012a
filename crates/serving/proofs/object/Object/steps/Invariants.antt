use Rattle.std.proofs.Common.{◌≡◌, ◌++◌, take}
use Rattle.std.specs.List.{flat_map}
use Rattle.serving.specs.inside.Front.{step_tokens}
use Rattle.serving.proofs.object.Object.steps.Given as goal

abbrev pub invariant-loop-step : goal.invariant-loop-step
invariant-loop-step l = record {
  before : l.self.before ≡ l.fn.self.before;
  tokens : l.self.tokens ≡ l.fn.self.tokens ++ flat_map step_tokens (take l.step-index l.steps);
}
