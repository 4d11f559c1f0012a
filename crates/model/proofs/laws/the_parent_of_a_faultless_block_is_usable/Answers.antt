use Rattle.std.proofs.Common.{◌≡◌, ℕ, Option, true, sym, subst, IsSomeAnd}
use Rattle.tree.specs.State.{has_no_mark}
use Rattle.model.specs.laws.Steps.{faultless-parent}
use Rattle.model.proofs.laws.the_parent_of_a_faultless_block_is_usable.Goals as goal

pub returns : goal.returns
returns g c = λ r s now b e. let h = faultless-parent r s now b e in subst (λ (o : Option ℕ). IsSomeAnd o (λ p. has_no_mark s p ≡ true)) (sym h.1) h.2
