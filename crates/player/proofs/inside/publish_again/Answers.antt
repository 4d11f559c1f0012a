use Rattle.std.proofs.Common.{◌∙◌, ap, sym, subst}
use Rattle.view.specs.Rule.{IsExactOf}
use Rattle.view.specs.ViewState.{ViewState, after_publications}
use Rattle.player.proofs.inside.publish_again.Goals as goal

pub publish_as-writer-requires : goal.publish_as-writer-requires
publish_as-writer-requires g c next is views h at =
    let same = is ∙ ap (after_publications c.args.writer.desk.shown.value) c.requires in
    (tt, subst (λ (x : ViewState). IsExactOf g.J.Naming.origin x) (sym same) h, tt)
