use Rattle.std.proofs.Common.{rules, ◌≡◌, ap, sym, ◌∙◌, subst}
use Rattle.std.specs.Arc.{arc_value}
use Rattle.std.specs.Option.{option_map}
use Rattle.view.specs.Origin.{Origin, origin_of}
use Rattle.view.specs.ViewState.{ViewState, IsExact, opening_view}
use Rattle.node.proofs.published_history.new_history.writer_and_readers.Goals as goal

pub open_writer-requires-clause-exact : goal.open_writer-requires-clause-exact
open_writer-requires-clause-exact g c _ _ =
    let t = option_map arc_value c.in_ok-one.one in
    let triples : t ≡ option_map arc_value c.args.table.now = c.in_ok-one.ensures in
    let is : origin_of c.copy.result.book c.args.params t c.args.seats ≡ g.J.Naming.origin = (λ i. origin_of (c.copy.ensures i).book c.args.params (triples i) c.args.seats) ∙ c.requires.of in
    let first = c.new-first.ensures ∙ ap (λ (o : Origin). opening_view o c.args.info) is in
    subst IsExact (sym first) c.requires.exact

pub returns-clause-shown : goal.returns-clause-shown
returns-clause-shown g c =
    let t = option_map arc_value c.in_ok-one.one in
    let triples : t ≡ option_map arc_value c.args.table.now = c.in_ok-one.ensures in
    let is : origin_of c.copy.result.book c.args.params t c.args.seats ≡ g.J.Naming.origin = (λ i. origin_of (c.copy.ensures i).book c.args.params (triples i) c.args.seats) ∙ c.requires.of in
    let same : c.in_ok-open_writer.field-0.desk.shown.value ≡ opening_view g.J.Naming.origin c.args.info =
    c.in_ok-open_writer.ensures.shown ∙ c.new-first.ensures ∙ ap (λ (o : Origin). opening_view o c.args.info) is in
    record {
      origin_is = ap (λ (x : ViewState). x.origin) same;
      journal_is = ap (λ (x : ViewState). x.journal) same;
      exact = subst IsExact (sym same) c.requires.exact;
    }
