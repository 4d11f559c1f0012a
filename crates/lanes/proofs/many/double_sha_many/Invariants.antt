use Rattle.std.proofs.Common.{◌≡◌, ◌*◌, length, take}
use Rattle.lanes.specs.Messages.{ids_of}
use Rattle.lanes.proofs.many.double_sha_many.Given as goal

abbrev pub invariant-turns : goal.invariant-turns
invariant-turns l = (length l.out ≡ length l.messages) × (take (8 * l.k) l.out ≡ take (8 * l.k) (ids_of l.messages))
