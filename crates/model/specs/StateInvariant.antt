-- What holds of each state that commands reach.
use Rattle.std.specs.Prelude.{◌≡◌, true, [], ◌∷◌, None, Some, ⊤}
use Rattle.tree.specs.Branches.{Kept, Blocks, place_of}
use Rattle.tree.specs.State.{State, has_no_mark}
use Rattle.model.specs.Rules.{Rules}
use Rattle.model.specs.Settle.{settle}

-- what each state is that commands reach: genesis isn't marked, and settling changes nothing
pub record IsSettled {B I : Type 0} (r : Rules B I) (s : State B) : Type 0 where
  pub genesis : has_no_mark s 0 ≡ true
  pub settled : settle r s ≡ s

-- what a kept block was when it came: it had no fault by itself, its id was new, and it stands on the block that its
-- header names
pub record IsKept {B I : Type 0} (r : Rules B I) (older : Blocks B) (k : Kept B) : Type 0 where
  pub alone : r.alone_fault k.block ≡ None
  pub unknown : place_of r.names older (r.names.id_of k.block) ≡ None
  pub parent : place_of r.names older (r.names.parent_of k.block) ≡ Some k.parent

-- so was each block but genesis
abbrev pub AllKept : {B I : Type 0} → Rules B I → Blocks B → Type 0
AllKept r [] = ⊤
AllKept r (k ∷ older) = IsKept r older k × AllKept r older
