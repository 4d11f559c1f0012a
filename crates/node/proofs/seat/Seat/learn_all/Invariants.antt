use Rattle.std.proofs.Common.{take}
use Rattle.node.specs.Runs.{Learns}
use Rattle.node.specs.Pass.{IsLater, IsOwn}
use Rattle.node.proofs.seat.Seat.learn_all.Given as goal

abbrev pub invariant-loop-place : goal.invariant-loop-place
invariant-loop-place g l = Learns l.fn.self (take l.place l.triples) l.valid l.self × IsLater l.fn.self l.self × IsOwn l.self
