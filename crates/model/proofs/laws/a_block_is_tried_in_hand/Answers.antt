use Rattle.tree.specs.Branches.{Kept}
use Rattle.model.specs.laws.InHand.{valid_new, first_own, first_below}
use Rattle.model.proofs.laws.a_block_is_tried_in_hand.Goals as goal

pub returns-clause-own : goal.returns-clause-own
returns-clause-own g c = λ r s b p kept valid.
    let k : Kept _ = record { block = b; parent = p } in
    (valid_new r k s.blocks kept valid, first_own r k s.blocks kept valid)

pub returns-clause-below : goal.returns-clause-below
returns-clause-below g c = λ r s b p kept x is. first_below r (record { block = b; parent = p }) s.blocks kept x is
