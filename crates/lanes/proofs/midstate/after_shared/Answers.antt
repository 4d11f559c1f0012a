use Rattle.std.proofs.Common.{◌≡◌, ◌+◌, ◌-◌, ◌*◌, take, drop, refl, ap, arith}
use Rattle.lanes.specs.State.{lane}
use Rattle.lanes.proofs.Midstates.{all_taken, next_block, none_taken}
use Rattle.lanes.proofs.midstate.after_shared.Goals as goal

pub turns-init : goal.turns-init
turns-init c = λ l lt before held. none_taken before c.args.blocks.now (lane c.args.state l) (64 * 0) refl held

pub turns-preserved : goal.turns-preserved
turns-preserved c = λ l lt before held.
    let all = c.args.blocks.now in
    let k = c.turns.k in
    let block = take (64 * k + 64 - 64 * k) (drop (64 * k) all) in
    let len : 64 * k + 64 - 64 * k ≡ 64 = omega arith in
    next_block before all (lane c.turns.state l) block _ k (omega (arith, c.turns-test.true)) (ap (λ n. take n (drop (64 * k) all)) len)
    (c.after_known-state.ensures l lt block c.sums.ensures) (c.turns.invariant l lt before held)

pub returns : goal.returns
returns c = λ l lt before held. all_taken before c.args.blocks.now _ (64 * c.turns.k) (omega (arith, c.turns-test.false, c.requires)) (c.turns.invariant l lt before held)
