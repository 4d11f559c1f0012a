use Rattle.std.proofs.Common.{arith}
use Rattle.reference.proofs.Changes.{clear_state, clear_right}
use Rattle.reference.proofs.state.Replayed.clear.Goals as goal

pub returns-clause-state : goal.returns-clause-state
returns-clause-state c =
    let i = c.loop-other.invariant in
    let f = c.loop-other-test.false in
    let e = c.len-other-end.ensures in
    let w = c.args.self.now.held.ok in
    clear_state c.requires.right.0 c.requires.right.1 c.args.self.now c.loop-other.self c.requires.right.2 c.args.place i.held i.seen i.calls i.same (λ x h. i.taken x (omega arith))

pub returns-clause-right : goal.returns-clause-right
returns-clause-right c params triples right =
    let i = c.loop-other.invariant in
    let f = c.loop-other-test.false in
    let e = c.len-other-end.ensures in
    let w = c.args.self.now.held.ok in
    clear_right params triples c.args.self.now c.loop-other.self right c.args.place i.held i.seen i.same (λ x h. i.taken x (omega arith))
