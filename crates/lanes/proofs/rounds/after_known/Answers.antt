use Rattle.std.proofs.Common.{arith, ◌≡◌, ◌*◌, refl, ◌∙◌, ap}
use Rattle.lanes.specs.State.{lane}
use Rattle.sha2.specs.Sha256.{add_state, compress, rounds, schedule}
use Rattle.lanes.proofs.rounds.after_known.Goals as goal

pub rounds-init : goal.rounds-init
unfolding rounds
rounds-init c = λ l lt b are. refl

pub rounds-preserved : goal.rounds-preserved
rounds-preserved c = λ l lt b are.
    let h = lane c.args.state l in
    let after = rounds h (schedule b 48) in
    let one = c.known_round-v.ensures l lt b h are (c.rounds.invariant l lt b are) in
    let two = c.known_round-v-in-rounds.ensures l lt b h are one in
    let three = c.known_round-v-in-rounds-2.ensures l lt b h are (two ∙ ap after (omega arith)) in
    let four = c.known_round-v-in-rounds-3.ensures l lt b h are (three ∙ ap after (omega arith)) in
    let five = c.known_round-v-in-rounds-4.ensures l lt b h are (four ∙ ap after (omega arith)) in
    let six = c.known_round-v-in-rounds-5.ensures l lt b h are (five ∙ ap after (omega arith)) in
    let seven = c.known_round-v-in-rounds-6.ensures l lt b h are (six ∙ ap after (omega arith)) in
    let eight = c.known_round-v-in-rounds-7.ensures l lt b h are (seven ∙ ap after (omega arith)) in
    eight ∙ ap after (omega arith)

pub returns : goal.returns
unfolding compress
returns c = λ l lt b are.
    let done : 8 * c.rounds.turn ≡ 64 = omega (arith, c.rounds.auto.turn-end) in
    c.added.ensures l lt ∙ ap (add_state (lane c.args.state l)) (rw done at (c.rounds.invariant l lt b are))
