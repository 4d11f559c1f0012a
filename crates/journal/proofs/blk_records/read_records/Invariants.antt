use Rattle.std.proofs.Common.{map, length}
use Rattle.journal.proofs.Given.{HasGiven}
use Rattle.journal.proofs.blk_records.read_records.Given as goal

abbrev pub invariant-loop-records : goal.invariant-loop-records
invariant-loop-records l = HasGiven 0 l.bytes (map (λ block. block.items) l.records.items) l.reader

abbrev pub decreases-loop-records : goal.decreases-loop-records
decreases-loop-records l = length l.reader.to_come
