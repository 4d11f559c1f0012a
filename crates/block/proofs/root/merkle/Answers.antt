use Rattle.std.proofs.Common.{◌≡◌, ◌<◌, Bool, ◌||◌, List, length, sym, ap, ◌∙◌, arith}
use Rattle.std.proofs.Math.Bool.{or_assoc, or-false}
use Rattle.hash.specs.declared.id.Id.{Id}
use Rattle.block.specs.Merkle.{root, twin, has_twin, next}
use Rattle.block.proofs.Tree.{root-next, twin-next, next-shorter, no_twin_left}
use Rattle.block.proofs.root.merkle.Goals as goal

pub loop-level-smaller : goal.loop-level-smaller
loop-level-smaller c =
    let two : 1 < length c.loop-level.level.items = omega (arith, c.loop-level-test.true, c.len.ensures) in
    rw c.go_up.ensures (next-shorter c.loop-level.level.items two)

pub loop-level-preserved : goal.loop-level-preserved
loop-level-preserved c =
    let level : List Id = c.loop-level.level.items in
    let so_far : Bool = c.loop-level.twin in
    let two : 1 < length level = omega (arith, c.loop-level-test.true, c.len.ensures) in
    let here : c.has_twin-twin.result ≡ has_twin level = c.has_twin-twin.ensures ∙ ap has_twin c.as_slice.ensures.value in
    let above : twin c.go_up.new.level.items ≡ twin (next level) = ap twin c.go_up.ensures in (
      ap root c.go_up.ensures ∙ sym (root-next level two) ∙ c.loop-level.invariant.0,
      or_assoc so_far c.has_twin-twin.result (twin c.go_up.new.level.items)
          ∙ ap (λ (b : Bool). so_far || (b || twin c.go_up.new.level.items)) here
          ∙ ap (λ (b : Bool). so_far || (has_twin level || b)) above
          ∙ ap (λ (b : Bool). so_far || b) (sym (twin-next level two))
          ∙ c.loop-level.invariant.1,
    )

pub returns-clause-twin : goal.returns-clause-twin
returns-clause-twin c =
    let none : twin c.loop-level.level.items ≡ _ = no_twin_left c.loop-level.level.items (omega (arith, c.loop-level-test.false, c.len.ensures)) in
    sym (or-false c.loop-level.twin) ∙ ap (λ (b : Bool). c.loop-level.twin || b) (sym none) ∙ c.loop-level.invariant.1
