use Rattle.std.proofs.Common.{◌≡◌, length, take}
use Rattle.lanes.specs.Messages.{ids_of}
use Rattle.lanes.proofs.many.one_by_one.Given as goal

abbrev pub invariant-messages : goal.invariant-messages
invariant-messages l = (length l.out ≡ length l.messages) × (take l.k l.out ≡ take l.k (ids_of l.messages))
