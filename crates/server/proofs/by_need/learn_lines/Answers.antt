use Rattle.std.specs.Prelude.{Ok}
use Rattle.std.proofs.Common.{subst, sym, inr}
use Rattle.signatures.specs.Lines.{lines}
use Rattle.server.specs.inside.Verdicts.{AreLearnt}
use Rattle.server.proofs.Verdicts.{learnt_so}
use Rattle.server.proofs.by_need.learn_lines.Goals as goal

pub returns-in-Ok : goal.returns-in-Ok
returns-in-Ok g c =
    subst (λ o. AreLearnt c.args.seat.now c.learn_all.new.self (lines c.args.text.now) c.args.valid (Ok o)) (sym c.taken_from.ensures)
    (learnt_so c.args.seat.now c.learn_all.new.self (lines c.args.text.now) c.in_ok-triples.triples.items c.args.valid
    _ _ c.in_ok-triples.ensures (rw c.as_slice.ensures.value at c.in-Ok.ensures.answer))

pub returns-in-Err : goal.returns-in-Err
returns-in-Err g c = inr (c.in_ok-triples.triples.items, c.in_ok-triples.ensures, (rw c.as_slice.ensures.value at c.in-Err.ensures.fault))
