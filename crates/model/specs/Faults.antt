-- What the theorems speak of: a block that is to be kept, and the first fault of a branch.
use Rattle.std.specs.Prelude.{◌≡◌, ℕ, ◌<◌, ◌≤◌, true, ◌⊎◌, length, None, Some}
use Rattle.tree.specs.Branches.{Blocks, has, before, on, id_at, place_of}
use Rattle.tree.specs.State.{State}
use Rattle.tree.specs.Limits.{max_blocks}
use Rattle.model.specs.Rules.{Rules}
use Rattle.model.specs.Valid.{branch_connects, first_to_fail}
use Rattle.model.specs.Settle.{is_candidate}
use Rattle.model.specs.Context.{first_fault}
use Rattle.model.specs.Submission.{kept_blocks}

-- a block that is to be kept on p: its id is new, there is room, and it has no fault before connection
pub record IsNew {B I : Type 0} (r : Rules B I) (s : State B) (now : ℕ) (b : B) (p : ℕ) : Type 0 where
  pub unknown : place_of r.names s.blocks (r.names.id_of b) ≡ None
  pub room : kept_blocks s < max_blocks
  pub faultless : first_fault r s now b ≡ None
  pub parent : place_of r.names s.blocks (r.names.parent_of b) ≡ Some p

-- f is the first block of the branch of c that doesn't connect
pub record IsFirstFault {B I : Type 0} (r : Rules B I) (t : Blocks B) (c f : ℕ) : Type 0 where
  pub on : on t c f ≡ true
  pub first : first_to_fail r t f ≡ true

-- x is on the branch of c before that one, or anywhere, if there is none
abbrev pub Passes : {B I : Type 0} → Rules B I → Blocks B → ℕ → ℕ → Type 0
Passes r t c x = ((branch_connects r t c ≡ true) × (on t c x ≡ true)) ⊎ ((f : ℕ) × IsFirstFault r t c f × (has (before t f) x ≡ true))

-- this holds of a candidate's branch
abbrev pub OfCandidate : {B I : Type 0} → Rules B I → State B → (ℕ → Type 0) → Type 0
OfCandidate r s P = (c : ℕ) × (c ≤ length s.blocks) × (is_candidate r s c ≡ true) × P c

-- no two places have one id
abbrev pub IdsAreKeptOnce : {B I : Type 0} → Rules B I → Blocks B → Type 0
IdsAreKeptOnce r t = (p q : ℕ) → p ≤ length t → q ≤ length t → id_at r.names t p ≡ id_at r.names t q → p ≡ q
