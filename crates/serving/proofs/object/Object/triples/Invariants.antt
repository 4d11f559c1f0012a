use Rattle.std.proofs.Common.{◌≡◌, ◌++◌, take}
use Rattle.std.specs.List.{flat_map}
use Rattle.serving.specs.inside.Front.{line_tokens}
use Rattle.serving.proofs.object.Object.triples.Given as goal

abbrev pub invariant-loop-triple : goal.invariant-loop-triple
invariant-loop-triple l = record {
  before : l.self.before ≡ l.fn.self.before;
  tokens : l.self.tokens ≡ l.fn.self.tokens ++ flat_map line_tokens (take l.triple-index l.triples);
}
