use Rattle.std.proofs.Common.{◌≡◌, sym, ap, ◌∙◌}
use Rattle.signatures.specs.Triple.{Triples}
use Rattle.tree.specs.Branches.{id_at}
use Rattle.tree.specs.Names.{names}
use Rattle.tree.specs.Tips as tree_tips
use Rattle.model.specs.Regtest.{regtest}
use Rattle.model.specs.Settle.{active, best}
use Rattle.activate.specs.CoreState.{CoreState, Follows, coins_after}
use Rattle.activate.proofs.laws.what_is_read_is_the_same_under_each_set.Goals as goal

same : (c : CoreState) (one other : Triples) → Follows c one → Follows c other → active (regtest c.params one) c.state ≡ active (regtest c.params other) c.state
same c one other a b = sym a.active_is ∙ b.active_is

pub returns-clause-active : goal.returns-clause-active
returns-clause-active g = same

pub returns-clause-best : goal.returns-clause-best
unfolding best
returns-clause-best g = λ c one other a b. ap (id_at names c.state.blocks) (same c one other a b)

pub returns-clause-tips : goal.returns-clause-tips
returns-clause-tips g = λ c one other a b. ap (tree_tips.tips names c.state) (same c one other a b)

pub returns-clause-coins : goal.returns-clause-coins
returns-clause-coins g = λ c one other a b. ap (coins_after c.state.blocks) (same c one other a b)
