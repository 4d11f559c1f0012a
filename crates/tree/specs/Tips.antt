-- The tips of the tree (Bitcoin Core's `getchaintips`), beside the active block at `a`.
use Rattle.std.specs.Prelude.{ℕ, ◌-◌, ◌==◌, nat_lt, Bool, not, ◌&&◌, ◌||◌, if◌then◌else◌, List, [], ◌∷◌, map, filter, find, unwrap_or}
use Rattle.std.specs.List.{list_any}
use Rattle.hash.specs.declared.id.Id.{Id}
use Rattle.tree.specs.declared.tip.Status.{Status}
use Rattle.tree.specs.declared.tip.Tip.{Tip}
use Rattle.tree.specs.declared.tip.Status.TheVariants.{Active, Invalid, ValidFork, ValidHeaders}
use Rattle.tree.specs.BlockNames.{Naming}
use Rattle.tree.specs.Branches.{Blocks, has, places, branch, on, height, id_at}
use Rattle.tree.specs.State.{State, has_no_mark}

pub record TipOf (I : Type 0) : Type 0 where
  pub id : I
  pub height : ℕ
  -- how many of its blocks aren't on the active branch
  pub length : ℕ
  pub status : Status

-- a place put before the first that it goes before
unfoldable pub put_in : (ℕ → ℕ → Bool) → ℕ → List ℕ → List ℕ
put_in first p [] = p ∷ []
put_in first p (q ∷ rest) = if first p q then p ∷ q ∷ rest else q ∷ put_in first p rest

unfoldable pub sort_places : (ℕ → ℕ → Bool) → List ℕ → List ℕ
sort_places first [] = []
sort_places first (p ∷ ps) = put_in first p (sort_places first ps)

module _ {B : Type 0} where
  -- the active block, or one without a child
  unfoldable pub is_tip : Blocks B → ℕ → ℕ → Bool
  is_tip t a p = (p == a) || not (list_any (λ k. k.parent == p) t)

  -- by height downwards, then by arrival
  unfoldable pub goes_first : Blocks B → ℕ → ℕ → Bool
  goes_first t p q = nat_lt (height t q) (height t p) || ((height t p == height t q) && nat_lt p q)

  -- the highest block of the branch that is on the active branch too
  unfoldable pub last_shared : Blocks B → ℕ → ℕ → ℕ
  last_shared t a p = unwrap_or (find (on t a) (branch t p)) 0

  unfoldable pub status : State B → ℕ → ℕ → Status
  status s a p =
      if p == a then Active else if not (has_no_mark s p) then Invalid else if has s.seen p then ValidFork else ValidHeaders

module _ {B I : Type 0} (names : Naming B I) where
  unfoldable pub tip : State B → ℕ → ℕ → TipOf I
  tip s a p = record {
    id = id_at names s.blocks p;
    height = height s.blocks p;
    length = height s.blocks p - height s.blocks (last_shared s.blocks a p);
    status = status s a p;
  }

  unfoldable pub tips : State B → ℕ → List (TipOf I)
  tips s a = map (tip s a) (sort_places (goes_first s.blocks) (filter (is_tip s.blocks a) (places s.blocks)))

-- as the program gives it
abbrev pub tip_of_id : TipOf Id → Tip
tip_of_id t = record { id = t.id; height = t.height; length = t.length; status = t.status }
