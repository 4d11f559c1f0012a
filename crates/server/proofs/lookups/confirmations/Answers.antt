use Rattle.std.proofs.Common.{◌≡◌, ◌∙◌, Some, sym, subst, rules}
use Rattle.tree.specs.Names.{names}
use Rattle.tree.specs.laws.AddedBlock.{place-bound}
use Rattle.activate.specs.Lookups.{ancestor_of}
use Rattle.server.proofs.Brought.{top_height}
use Rattle.server.proofs.lookups.confirmations.Goals as goal

pub height-requires : goal.height-requires
height-requires c = place-bound names c.args.tree.now.blocks c.args.best.now c.in-Some.top (sym c.find.ensures ∙ c.in-Some.is)

pub returns-clause-deep : goal.returns-clause-deep
returns-clause-deep c =
    let t = c.args.tree.now.blocks in (
      _,
      top_height t c.args.best.now c.in-Some.top (sym c.find.ensures ∙ c.in-Some.is),
      subst (λ n. ancestor_of t c.args.best.now n ≡ Some c.args.id.now) c.height-height.ensures.value (c.is_at.ensures.0 c.if-not-is_at.false),
      search rules,
    )
