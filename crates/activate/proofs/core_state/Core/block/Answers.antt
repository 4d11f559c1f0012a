use Rattle.std.proofs.Common.{sym, ◌∙◌}
use Rattle.tree.specs.laws.AddedBlock.{place-bound}
use Rattle.tree.specs.Names.{names}
use Rattle.activate.proofs.core_state.Core.block.Goals as goal

pub block-requires : goal.block-requires
block-requires c = place-bound names c.self.inside.tree.blocks c.args.id.now c.in_ok-place.place (sym c.find.ensures ∙ c.in_ok-place.was)
