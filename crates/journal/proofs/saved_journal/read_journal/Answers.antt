use Rattle.std.proofs.Common.{◌≡◌, ◌∷◌, ◌++◌, [], sym, subst, rules}
use Rattle.journal.specs.Line.{AreNumbered}
use Rattle.journal.proofs.ReadLines.{AreRead, line_read, number_read}
use Rattle.journal.proofs.saved_journal.read_journal.Goals as goal

pub loop-rest-preserved : goal.loop-rest-preserved
loop-rest-preserved c =
    let steps = c.loop-rest.steps.items in
    let step = rw c.in-Some.is at c.in_ok-step.ensures in
    let items : c.push.new.self.items ≡ steps ++ c.in-Some.step ∷ [] = search rules in
    let more : c.loop-rest.rest.now ≡ [] → ⊥ = search rules in
    record {
      lines = subst (λ all. AreRead c.args.text.now all c.first_line.result.1.now) (sym items)
          (line_read c.args.text.now c.loop-rest.rest.now c.first_line.result.0.now c.first_line.result.1.now steps c.in-Some.step
          c.loop-rest.invariant.lines more c.first_line.ensures step.0);
      numbers = subst AreNumbered (sym items)
          (number_read steps c.in-Some.step c.loop-rest.invariant.numbers (search rules));
    }
