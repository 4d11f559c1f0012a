use Rattle.std.proofs.Common.{sym, ap, ◌∙◌}
use Rattle.std.specs.Option.{option_or}
use Rattle.txn.specs.First.{Rules, first_broken}
use Rattle.txn.specs.laws.First.{first_of_both}
use Rattle.rules.specs.Params.{at}
use Rattle.rules.specs.Context.{header_rules, place_rules, finality_cutoff}
use Rattle.rules.proofs.context.context_fault.Goals as goal

pub returns-in-Some : goal.returns-in-Some
returns-in-Some c =
    let b = c.args.block.now in
    let f = at c.args.params.now c.args.height in
    let hs : Rules = header_rules f b.header c.args.median c.args.now in
    let ps : Rules = place_rules f b c.args.height (finality_cutoff f b.header c.args.median) in
    ap (λ o. option_or o (first_broken ps)) (sym c.in-Some.is ∙ c.header_context.ensures) ∙ sym (first_of_both hs ps)
