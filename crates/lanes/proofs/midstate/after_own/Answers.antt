use Rattle.std.proofs.Common.{◌≤◌, ◌+◌, ◌*◌, length, List, ℕ, take, drop, refl, ap, ◌∙◌, arith}
use Rattle.lanes.specs.Midstate.{part}
use Rattle.lanes.specs.State.{lane}
use Rattle.sha2.specs.Sha256.{word_at}
use Rattle.lanes.proofs.Midstates.{all_taken, length-part, next_block, none_taken}
use Rattle.lanes.proofs.midstate.after_own.Goals as goal

pub turns-init : goal.turns-init
turns-init c = λ l lt before held. none_taken before (part c.args.parts.now l) (lane c.args.state l) (64 * 0) refl held

pub turns-preserved : goal.turns-preserved
turns-preserved c = λ l lt before held.
    let own = part c.args.parts.now l in
    let k = c.turns.k in
    let block = take 64 (drop (64 * k) own) in
    let room : 64 * k + 64 ≤ length own = omega (arith, c.turns-test.true, length-part c.args.parts.now l lt) in
    next_block before own (lane c.turns.state l) block _ k room refl
    (c.compressed-state.ensures l lt block (λ n nt. c.load.ensures l lt n nt ∙ ap (λ (b : List ℕ). word_at b (4 * n)) (c.own_blocks-blocks.ensures l lt)))
    (c.turns.invariant l lt before held)

pub returns : goal.returns
returns c = λ l lt before held.
    let own = part c.args.parts.now l in
    all_taken before own _ (64 * c.turns.k) (omega (arith, c.turns-test.false, c.requires, length-part c.args.parts.now l lt)) (c.turns.invariant l lt before held)
