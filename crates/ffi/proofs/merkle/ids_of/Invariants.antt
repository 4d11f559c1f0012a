-- They are the ids of the names before this one.
use Rattle.std.proofs.Common.{◌≡◌, map, take}
use Rattle.ffi.specs.Answers.{id_of}
use Rattle.ffi.proofs.merkle.ids_of.Given as goal

abbrev pub invariant-loop-name : goal.invariant-loop-name
invariant-loop-name l = l.ids.items ≡ map id_of (take l.name-index l.names)
