-- A block that is tried before it is kept: its parent's branch, and its own fault over that, say all of the branch that it would have.
use Rattle.std.proofs.Common.{◌≡◌, ℕ, suc, ◌≤◌, true, ◌||◌, eqb, length, ◌∷◌, sym, refl, ap, ◌∙◌, subst, inl, inr, arith, Option, None, Some}
use Rattle.std.specs.Option.{is_none}
use Rattle.std.specs.List.{list_all}
use Rattle.std.proofs.lemmas.Bool.{eqb-true, and_from, or_cases, or_right, not_from_false}
use Rattle.txn.specs.declared.reason.Reason.{Reason}
use Rattle.tree.specs.Branches.{Kept, Blocks, branch, blocks_at, on}
use Rattle.tree.specs.laws.Sets.{all_from}
use Rattle.tree.specs.laws.Branches.{on-bounds, on-itself, on_here, before_here}
use Rattle.model.specs.Rules.{Rules}
use Rattle.model.specs.Valid.{connects, branch_connects, first_to_fail}
use Rattle.model.specs.Faults.{IsFirstFault}
use Rattle.model.specs.laws.Candidates.{valid_gives, valid_from}
use Rattle.model.specs.laws.AddedBlock.{fault_new, connects_there, first_there}

module _ {B I : Type 0} (r : Rules B I) (k : Kept B) (older : Blocks B) (kept : k.parent ≤ length older) where
  abbrev n : ℕ
  n = suc (length older)

  abbrev more : Blocks B
  more = k ∷ older

  abbrev own_fault : Option Reason
  own_fault = r.connect_fault (blocks_at r.names older (branch older k.parent)) k.block

  connects_new : (o : Option Reason) → own_fault ≡ o → connects r more n ≡ is_none o
  unfolding connects
  connects_new o e = ap (λ (q : Option Reason). is_none q) (fault_new r k older kept ∙ e)

  connects_below : branch_connects r older k.parent ≡ true → (x : ℕ) → on older k.parent x ≡ true → connects r more x ≡ true
  connects_below v x o = connects_there r k older x (on-bounds older k.parent x o).1 ∙ valid_gives r older k.parent x v o

  module _ (v : branch_connects r older k.parent ≡ true) where
    -- valid, where the block connects
    pub valid_new : own_fault ≡ None → branch_connects r more n ≡ true
    valid_new e = valid_from r more n (λ x o. elim (or_cases (eqb n x) (on older k.parent x) (sym (on_here k older n x refl) ∙ o)) [
      | inl w ↦ subst (λ (z : ℕ). connects r more z ≡ true) (eqb-true n x w) (connects_new None e)
      | inr w ↦ connects_below v x w
    ])

    -- where it doesn't, it is the first that doesn't
    pub first_own : (reason : Reason) → own_fault ≡ Some reason → IsFirstFault r more n n
    unfolding first_to_fail
    first_own reason e = record {
      on = on-itself more n (omega arith);
      first =
          and_from _ _ (not_from_false _ (connects_new (Some reason) e))
          (ap (list_all (connects r more)) (before_here k older n refl) ∙ all_from (connects r more) (branch older k.parent) (λ x o. connects_below v x (unfold on in o)));
    }

  -- where one below doesn't connect, that one is
  pub first_below : (x : ℕ) → IsFirstFault r older k.parent x → IsFirstFault r more n x
  first_below x is = record {
    on = on_here k older n x refl ∙ or_right (eqb n x) (on older k.parent x) is.on;
    first = first_there r k older x (on-bounds older k.parent x is.on).1 ∙ is.first;
  }
