use Rattle.std.proofs.Common.{rules, ◌≡◌, ◌∙◌, Some, sym, ap, subst}
use Rattle.signatures.specs.Known.{Known, all_known, verdict_in}
use Rattle.signatures.specs.laws.Growth.{Grows}
use Rattle.queue.specs.Jobs.{known_of, known_then}
use Rattle.view.specs.Origin.{known_in}
use Rattle.node.proofs.Growth.{listed_early}
use Rattle.node.proofs.early.verdicts_of.Goals.{in-Some, in-None}
use Rattle.node.proofs.early.verdicts_of.Goals as goal

pub returns-clause-early : goal.returns-clause-early
returns-clause-early g c =
    let o = g.J.Naming.origin in
    let es = c.seen.result.entries in
    let by : known_then c.in_ok-verdicts.verdicts ≡ known_of c.match-table.source = ap known_then c.in_ok-verdicts.ensures in
    elim c.match-table.branch [
      | in-Some w ↦
          let table : o.table ≡ Some w.deref.result.now = search rules in
          let source : known_of c.match-table.source ≡ all_known w.deref.result.now = ap known_of w.source-is in
          subst (λ (known : Known). Grows known (known_in o es)) (sym (by ∙ source)) (listed_early o w.deref.result.now es table)
      | in-None w ↦
          let source : known_of c.match-table.source ≡ verdict_in c.args.learnt.now.found = ap known_of w.source-is ∙ ap verdict_in w.found.ensures in
          subst (λ (known : Known). Grows known (known_in o es)) (sym (by ∙ source)) c.seen.ensures.known
    ]
