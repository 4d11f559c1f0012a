use Rattle.std.proofs.Common.{refl}
use Rattle.reference.proofs.Changes.{call_state, still_right}
use Rattle.reference.proofs.state.Replayed.call.Goals as goal

pub returns-clause-state : goal.returns-clause-state
returns-clause-state c =
    call_state c.requires.0 c.requires.1 c.args.self.now (record { held = c.args.self.now.held; bad = c.args.self.now.bad; seen = c.args.self.now.seen; calls = c.push.new.self }) c.requires.2 c.args.place refl refl refl c.in_ok-push.ensures.items

pub returns-clause-right : goal.returns-clause-right
returns-clause-right c params triples right =
    still_right params triples c.args.self.now (record { held = c.args.self.now.held; bad = c.args.self.now.bad; seen = c.args.self.now.seen; calls = c.push.new.self }) right refl right.bad right.seen right.genesis
