use Rattle.std.proofs.Common.{◌≡◌, ◌/◌, length, arith, ◌∙◌}
use Rattle.lanes.proofs.InOrder.{rest_done, turn_more}
use Rattle.lanes.proofs.many.double_sha_many.Goals as goal

pub turns-preserved : goal.turns-preserved
turns-preserved c =
    turn_more c.args.messages.now c.turns.out c.copy_from_slice.new.self c.turns.k _ _ c.turns.invariant.0 c.turns.invariant.1 (omega (arith, c.turns-test.true)) (omega arith) (omega arith)
    (c.copy_from_slice.ensures.after ∙ c.eight-hashed.ensures) (omega arith)

pub returns : goal.returns
returns c =
    let all : c.turns.k ≡ length c.args.messages.now / 8 = omega (arith, c.turns-test.false) in
    rest_done c.args.messages.now c.turns.out c.one_by_one.new.out _ c.turns.invariant.0 (rw all at c.turns.invariant.1) c.one_by_one.ensures
