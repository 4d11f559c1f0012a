use Rattle.std.proofs.Common.{◌+◌, ◌*◌, Bool, ◌||◌, [], drop, sym, ap, ◌∙◌, arith}
use Rattle.hash.specs.declared.id.Id.{Id}
use Rattle.block.specs.Merkle.{has_twin}
use Rattle.block.proofs.Tree.{no_twin_after, twin_step}
use Rattle.block.proofs.root.has_twin.Goals as goal

pub loop-k-preserved : goal.loop-k-preserved
loop-k-preserved c =
    let none : Id = record { 0 = [] } in
    let step = twin_step c.args.level.now c.loop-k.k none (omega (arith, c.loop-k-test.true)) in
    let more : Bool = has_twin (drop (2 * (c.loop-k.k + 1)) c.args.level.now) in
    sym (step ∙ ap (λ (b : Bool). b || more) (sym c.eq.ensures ∙ c.if-eq.false)) ∙ c.loop-k.invariant

pub returns : goal.returns
returns c = sym (no_twin_after c.args.level.now c.loop-k.k (omega (arith, c.loop-k-test.false))) ∙ c.loop-k.invariant
