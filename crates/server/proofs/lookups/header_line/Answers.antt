use Rattle.std.proofs.Common.{◌∙◌, sym}
use Rattle.tree.specs.Names.{names}
use Rattle.tree.specs.laws.AddedBlock.{place-bound}
use Rattle.server.specs.inside.Answers.{header_answer}
use Rattle.server.proofs.Brought.{header_told}
use Rattle.server.proofs.lookups.header_line.Goals as goal

pub height-requires : goal.height-requires
height-requires c = place-bound names c.args.tree.now.blocks c.args.id.now c.in-Some.place (sym c.find.ensures ∙ c.in-Some.is)

pub confirmations-count-requires : goal.confirmations-count-requires
confirmations-count-requires c = place-bound names c.args.tree.now.blocks c.args.id.now c.in-Some.place (sym c.find.ensures ∙ c.in-Some.is)

pub returns : goal.returns
returns c =
    let shown = c.shown_header-header.ensures in
    header_told c.args.tree.now.blocks c.args.best.now.value c.args.id.now c.args.blank c.args.best.now.at c.in-Some.place c.height.result
    c.in-Some-header_of.bytes c.confirmations-count.result _ c.read-2.result
    (sym c.find.ensures ∙ c.in-Some.is) (sym c.header_of.ensures ∙ c.in-Some-header_of.is) c.height.ensures.value c.confirmations-count.ensures.deep
    (λ i. header_answer (shown.bytes i) (shown.height i) (shown.confirmations i)) c.read-2.ensures
