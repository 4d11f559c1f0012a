use Rattle.std.proofs.Common.{◌≡◌, List, ℕ, length}
use Rattle.block.specs.declared.blk.Stage.TheVariants as stages
use Rattle.journal.proofs.Given.{HasGiven}
use Rattle.journal.proofs.blk_records.read_out.Given as goal

abbrev pub invariant-loop-block : goal.invariant-loop-block
invariant-loop-block l = l.initial.reader.stage ≡ stages.Reading →
    (blocks : List (List ℕ)) × HasGiven l.initial.reader.offset l.initial.reader.to_come blocks l.reader

abbrev pub decreases-loop-block : goal.decreases-loop-block
decreases-loop-block l = length l.reader.to_come
