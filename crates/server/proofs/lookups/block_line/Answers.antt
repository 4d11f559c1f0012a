use Rattle.std.proofs.Common.{◌∙◌, sym}
use Rattle.tree.specs.Names.{names}
use Rattle.tree.specs.laws.AddedBlock.{place-bound}
use Rattle.server.proofs.lookups.block_line.Goals as goal

pub block-requires : goal.block-requires
block-requires c = place-bound names c.args.tree.now.blocks c.args.id.now c.in-Some.place (sym c.find.ensures ∙ c.in-Some.is)
