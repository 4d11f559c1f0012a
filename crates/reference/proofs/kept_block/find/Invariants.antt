use Rattle.std.proofs.Common.{◌≡◌}
use Rattle.tree.specs.Branches.{id_at}
use Rattle.tree.specs.Names.{names}
use Rattle.reference.specs.inside.Replay.{blocks_of}
use Rattle.reference.proofs.KeptBlocks.{last_below}
use Rattle.reference.proofs.kept_block.find.Given as goal

abbrev pub invariant-loop-place : goal.invariant-loop-place
invariant-loop-place l = l.found ≡ last_below (λ p. names.same_id (id_at names (blocks_of l.held) p) l.id) l.place
