-- So many entries were looked at.
use Rattle.std.proofs.Common.{◌≡◌, ◌+◌}
use Rattle.server.proofs.blocks.Blocks.add_all.Given as goal

abbrev pub invariant-loop-place : goal.invariant-loop-place
invariant-loop-place g l = record {
  seen : l.self.seen ≡ l.fn.self.seen;
  steps : l.self.steps ≡ l.fn.self.steps + l.place;
}
