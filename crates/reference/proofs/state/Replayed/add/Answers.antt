use Rattle.std.proofs.Common.{refl}
use Rattle.reference.specs.inside.Replay.{state_of_replayed}
use Rattle.reference.proofs.Changes.{add_state, add_right}
use Rattle.reference.proofs.state.Replayed.add.Goals as goal

pub returns-clause-state : goal.returns-clause-state
returns-clause-state c =
    add_state c.requires.right.0 c.requires.right.1 c.args.self.now (record { held = c.push.new.self; bad = c.push-2.new.self; seen = c.push-3.new.self; calls = c.args.self.now.calls }) c.requires.right.2
    (record { block = c.args.block; id = c.args.id; parent = c.args.parent; trial = c.args.trial }) c.in_ok-push.ensures.items c.in_ok-push-2.ensures.items c.in_ok-push-3.ensures.items refl

pub returns-clause-right : goal.returns-clause-right
unfolding state_of_replayed
returns-clause-right c params triples right tried =
    add_right params triples c.args.self.now (record { held = c.push.new.self; bad = c.push-2.new.self; seen = c.push-3.new.self; calls = c.args.self.now.calls }) right
    (record { block = c.args.block; id = c.args.id; parent = c.args.parent; trial = c.args.trial }) c.in_ok-push.ensures.items c.in_ok-push-2.ensures.items c.in_ok-push-3.ensures.items refl
    c.requires.id c.requires.parent tried c.requires.room c.requires.new c.requires.alone
