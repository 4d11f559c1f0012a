-- What was made is of the starts before this one.
use Rattle.std.proofs.Common.{◌≡◌, map, take}
use Rattle.ffi.specs.Transactions.{start_of}
use Rattle.ffi.proofs.transactions.starts_of.Given as goal

abbrev pub invariant-loop-start : goal.invariant-loop-start
invariant-loop-start l = l.list.items ≡ map start_of (take l.start-index l.starts)
