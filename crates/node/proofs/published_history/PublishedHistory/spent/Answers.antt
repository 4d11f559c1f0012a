use Rattle.std.specs.Option.{option_and_then}
use Rattle.std.proofs.Common.{◌≡◌, List, Option, ap, subst}
use Rattle.coins.specs.declared.coin.Coin.{Coin}
use Rattle.signatures.specs.Known.{Under}
use Rattle.tree.specs.Branches.{place_of}
use Rattle.tree.specs.Names.{names}
use Rattle.model.specs.declared.entry.Entry.{Entry}
use Rattle.activate.specs.Lookups.{spent_at}
use Rattle.view.specs.Origin.{Origin, known_in}
use Rattle.view.specs.ViewState.{state_after}
use Rattle.node.specs.Told.{undo_in}
use Rattle.node.specs.inside.PublishedState.{PublishedState}
use Rattle.node.proofs.Cores.{spent_after}
use Rattle.node.proofs.DryRuns.{for_ok}
use Rattle.node.proofs.published_history.PublishedHistory.spent.Goals as goal

pub returns : goal.returns
returns g c =
    let s = c.self.inside in
    let o : Origin = g.J.Naming.origin in
    let id = c.args.id.now in
    let t = s.chain.core.state.blocks in
    let journal : s.journal.items ≡ c.args.self.now.journal = ap (λ (h : PublishedState). h.journal) c.self.view_is in
    for_ok (λ (found : Option (List (List Coin))). found ≡ option_and_then (spent_at t s.chain.core.active) (place_of names t id))
    (λ (found : Option (List (List Coin))). Under (known_in o c.args.self.now.journal) (λ valid. found ≡ undo_in o id valid (state_after o valid c.args.self.now.journal)))
    c.spent.result
    (λ found told. subst (λ (es : List Entry). Under (known_in o es) (λ valid. found ≡ undo_in o id valid (state_after o valid es))) journal (spent_after o s.chain.core s.journal.items id found c.self.invariant.0 told))
    c.spent.ensures
