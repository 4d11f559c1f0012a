-- They are those of the lines so far.
use Rattle.std.proofs.Common.{length, take}
use Rattle.signatures.specs.Lines.{lines}
use Rattle.server.specs.inside.Verdicts.{AreSpelled}
use Rattle.server.proofs.by_need.triples_of.Given as goal

abbrev pub invariant-loop-line : goal.invariant-loop-line
invariant-loop-line l = AreSpelled (take (length l.yielded) (lines l.fn.text)) l.triples.items
