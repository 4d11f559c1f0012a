-- A block that is added leaves the faults of the others, and has the one over its parent's branch.
use Rattle.std.proofs.Common.{◌≡◌, ℕ, suc, ◌≤◌, not, ◌&&◌, List, ◌∷◌, length, sym, refl, ap, ◌∙◌, arith, Option}
use Rattle.std.specs.Option.{is_none}
use Rattle.std.specs.List.{list_all}
use Rattle.txn.specs.declared.reason.Reason.{Reason}
use Rattle.tree.specs.Branches.{Kept, Blocks, branch, before, block_at, blocks_at}
use Rattle.tree.specs.laws.Sets.{all_agree}
use Rattle.tree.specs.laws.Branches.{branch_there, branch_head, before_here, before_there, before-below}
use Rattle.tree.specs.laws.AddedBlock.{branch_within, block_there, block_here, blocks_there}
use Rattle.model.specs.Rules.{Rules}
use Rattle.model.specs.Valid.{fault_over, fault, connects, branch_connects, first_to_fail}

module _ {B I : Type 0} (r : Rules B I) (k : Kept B) (older : Blocks B) where
  abbrev new : ℕ
  new = suc (length older)

  abbrev more : Blocks B
  more = k ∷ older

  abbrev at : Blocks B → List ℕ → List B
  at t l = blocks_at r.names t l

  pub fault_there : (q : ℕ) → q ≤ length older → fault r more q ≡ fault r older q
  unfolding fault
  fault_there q h =
      ap (λ (l : List ℕ). fault_over r (at more l) (block_at r.names more q)) (before_there k older q (omega arith))
      ∙ ap (λ l. fault_over r l (block_at r.names more q)) (blocks_there r.names k older (before older q) (λ x o. let b = before-below older q x h o in omega arith))
      ∙ ap (fault_over r (at older (before older q))) (block_there r.names k older q h)

  -- its own fault is that over its parent's branch
  pub fault_new : k.parent ≤ length older → fault r more new ≡ r.connect_fault (at older (branch older k.parent)) k.block
  unfolding fault
  fault_new h =
      ap (λ (l : List ℕ). fault_over r (at more l) (block_at r.names more new)) (before_here k older new refl)
      ∙ ap (λ l. fault_over r l (block_at r.names more new)) (blocks_there r.names k older (branch older k.parent) (branch_within r.names k older k.parent))
      ∙ ap (fault_over r (at older (branch older k.parent))) (block_here r.names k older)
      ∙ ap (λ (l : List ℕ). fault_over r (at older l) k.block) (branch_head older k.parent h)
      ∙ first (block_at r.names older k.parent) (at older (before older k.parent))
      ∙ ap (λ (l : List ℕ). r.connect_fault (at older l) k.block) (sym (branch_head older k.parent h))
    where
      first : (b : B) (l : List B) → fault_over r (b ∷ l) k.block ≡ r.connect_fault (b ∷ l) k.block
      first b l = unfold fault_over in refl

  pub connects_there : (q : ℕ) → q ≤ length older → connects r more q ≡ connects r older q
  unfolding connects
  connects_there q h = ap (λ (o : Option Reason). is_none o) (fault_there q h)

  pub valid_there : (q : ℕ) → q ≤ length older → branch_connects r more q ≡ branch_connects r older q
  unfolding branch_connects
  valid_there q h =
      ap (list_all (connects r more)) (branch_there k older q (omega arith))
      ∙ all_agree (connects r more) (connects r older) (branch older q) (λ x o. connects_there x (branch_within r.names k older q x o))

  pub first_there : (q : ℕ) → q ≤ length older → first_to_fail r more q ≡ first_to_fail r older q
  unfolding first_to_fail
  first_there q h =
      ap (λ b. not b && list_all (connects r more) (before more q)) (connects_there q h)
      ∙ ap (λ (l : List ℕ). not (connects r older q) && list_all (connects r more) l) (before_there k older q (omega arith))
      ∙ ap (λ b. not (connects r older q) && b) (all_agree (connects r more) (connects r older) (before older q) (λ x o. connects_there x (let b = before-below older q x h o in omega arith)))
