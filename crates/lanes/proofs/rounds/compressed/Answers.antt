use Rattle.std.proofs.Common.{arith, ◌≡◌, ◌*◌, ◌∙◌, ap}
use Rattle.lanes.specs.State.{lane, lane_of}
use Rattle.sha2.specs.Sha256.{add_state, compress}
use Rattle.sha2.proofs.Schedule256.{IsRoundsAt_at, IsWindow_first}
use Rattle.std.proofs.lemmas.List.{length-map}
use Rattle.lanes.proofs.rounds.compressed.Goals as goal

pub schedule-init : goal.schedule-init
schedule-init c = λ l lt b words.
    let held = IsWindow_first b (lane_of c.args.words.now l) (length-map c.args.words.now _ ∙ c.told-words) words in
    (held, c.all_early-v.ensures l lt b held)

pub schedule-preserved : goal.schedule-preserved
schedule-preserved c = λ l lt b words.
    IsRoundsAt_at b (lane c.args.state l) _ _ _ _ (omega arith) (c.sixteen_late-v.ensures l lt b (lane c.args.state l) (c.schedule.invariant l lt b words))

pub returns : goal.returns
unfolding compress
returns c = λ l lt b words.
    let done : 16 * c.schedule.turn ≡ 64 = omega (arith, c.schedule.auto.turn-end (omega arith)) in
    c.added.ensures l lt ∙ ap (add_state (lane c.args.state l)) (rw done at (c.schedule.invariant l lt b words).1)
