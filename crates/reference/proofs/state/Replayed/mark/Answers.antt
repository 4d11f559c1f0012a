use Rattle.std.proofs.Common.{true, refl}
use Rattle.std.specs.Vec.{with_item}
use Rattle.reference.proofs.Changes.{mark_state, mark_right}
use Rattle.reference.proofs.state.Replayed.mark.Goals as goal

pub returns-clause-state : goal.returns-clause-state
returns-clause-state c =
    let old = c.args.self.now in
    mark_state c.requires.right.0 c.requires.right.1 old (record old { bad = with_item old.bad c.args.place true }) c.requires.right.2 c.args.place c.requires.kept refl refl refl refl

pub returns-clause-right : goal.returns-clause-right
returns-clause-right c params triples right =
    let old = c.args.self.now in
    mark_right params triples old (record old { bad = with_item old.bad c.args.place true }) right c.args.place c.requires.not_genesis c.requires.kept refl refl refl
