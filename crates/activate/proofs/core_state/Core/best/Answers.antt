use Rattle.std.proofs.Common.{ap, ◌∙◌}
use Rattle.tree.specs.Branches.{id_at}
use Rattle.tree.specs.Names.{names}
use Rattle.model.specs.Settle.{best}
use Rattle.activate.specs.CoreState.{CoreState}
use Rattle.activate.proofs.core_state.Core.best.Goals as goal

pub returns : goal.returns
unfolding best
returns c triples follows =
    c.id.ensures ∙ ap (λ (x : CoreState). id_at names x.state.blocks x.active) c.self.view_is
    ∙ ap (id_at names c.args.self.now.state.blocks) follows.active_is
