use Rattle.std.proofs.Common.{ap, arith}
use Rattle.activate.specs.CoreState.{CoreState}
use Rattle.activate.proofs.core_state.Core.undo_kept.Goals as goal

pub returns-clause-value : goal.returns-clause-value
returns-clause-value c =
    let e = c.len.ensures in
    let o = c.self.inside.undo.ok.0 in
    let v = ap (λ (x : CoreState). x.undo_kept) c.self.view_is in
    omega arith

pub returns-clause-few : goal.returns-clause-few
returns-clause-few c =
    let few = c.self.invariant.1.undo_few in
    let e = c.len.ensures in
    let o = c.self.inside.undo.ok.0 in
    omega arith
