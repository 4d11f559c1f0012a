use Rattle.std.proofs.Common.{sym, subst}
use Rattle.std.specs.Arc.{arc_value}
use Rattle.view.specs.Origin.{Origin, origin}
use Rattle.view.specs.ViewState.{IsExact, opening_view}
use Rattle.player.proofs.OpeningViews.{exact_at_first}
use Rattle.player.proofs.inside.open_views.Goals as goal

pub open_writer-requires-clause-exact : goal.open_writer-requires-clause-exact
open_writer-requires-clause-exact g c _ _ =
    let t = arc_value c.args.table in
    let f = c.in_ok-core.ensures.follows in
    let n = c.in_ok-info.ensures in
    let o : Origin = origin c.copy.result.book c.args.params t 1 in
    let exact : IsExact (opening_view o c.in_ok-info.info) = exact_at_first o c.in_ok-core.core c.in_ok-info.info c.in_ok-core.ensures.value
    (λ valid. n.best valid (f valid).0) (λ valid. n.height valid (f valid).0) (λ valid. n.tips valid (f valid).0) in
    subst IsExact (sym c.new-first.ensures) exact
