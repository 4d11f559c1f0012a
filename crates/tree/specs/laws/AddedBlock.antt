-- A block that is added leaves what is known of the others.
use Rattle.std.proofs.Common.{◌≡◌, ℕ, suc, ◌≤◌, true, false, cond, not, ◌&&◌, ◌||◌, eqb, ltb, List, [], ◌∷◌, length, map, refl, ap, ◌∙◌, arith, None, Some}
use Rattle.std.specs.List.{list_all}
use Rattle.std.proofs.lemmas.Bool.{eq-eqb, ne_eqb}
use Rattle.tree.specs.BlockNames.{Naming}
use Rattle.tree.specs.Branches.{Kept, Blocks, has, branch, on, height, block_at, id_at, blocks_at, place_of}
use Rattle.tree.specs.State.{State, has_no_mark, rank, beats}
use Rattle.tree.specs.laws.Sets.{has_here, has_there}
use Rattle.tree.specs.laws.Branches.{branch_there, branch_here, on-bounds, height_there}

map_agree : {A : Type 0} (f g : ℕ → A) (l : List ℕ) → ((x : ℕ) → has l x ≡ true → f x ≡ g x) → map f l ≡ map g l
map_agree f g [] h = refl
map_agree f g (y ∷ l) h = ap (λ v. v ∷ map f l) (h y (has_here y l)) ∙ ap (λ v. g y ∷ v) (map_agree f g l (λ x o. h x (has_there y x l o)))

module _ {B I : Type 0} (names : Naming B I) (k : Kept B) (older : Blocks B) where
  abbrev new : ℕ
  new = suc (length older)

  abbrev more : Blocks B
  more = k ∷ older

  pub branch_within : (q x : ℕ) → has (branch older q) x ≡ true → x ≤ length older
  branch_within q x o = (on-bounds older q x (by_on o)).1
    where
      by_on : has (branch older q) x ≡ true → on older q x ≡ true
      by_on o = unfold on in o

  pub block_there : (x : ℕ) → x ≤ length older → block_at names more x ≡ block_at names older x
  unfolding block_at
  block_there x h = ap (λ b. cond b k.block (block_at names older x)) (ne_eqb new x (omega arith))

  pub block_here : block_at names more new ≡ k.block
  unfolding block_at
  block_here = ap (λ b. cond b k.block (block_at names older new)) (eq-eqb new new refl)

  pub id_there : (x : ℕ) → x ≤ length older → id_at names more x ≡ id_at names older x
  unfolding id_at
  id_there x h = ap (λ b. cond b (names.id_of k.block) (id_at names older x)) (ne_eqb new x (omega arith))

  pub id_here : id_at names more new ≡ names.id_of k.block
  unfolding id_at
  id_here = ap (λ b. cond b (names.id_of k.block) (id_at names older new)) (eq-eqb new new refl)

  pub blocks_there : (l : List ℕ) → ((x : ℕ) → has l x ≡ true → x ≤ length older) → blocks_at names more l ≡ blocks_at names older l
  blocks_there l h = map_agree (block_at names more) (block_at names older) l (λ x o. block_there x (h x o))

  -- the blocks of the other branches, and of its own
  pub blocks-old : (q : ℕ) → q ≤ length older → blocks_at names more (branch more q) ≡ blocks_at names older (branch older q)
  blocks-old q h = ap (blocks_at names more) (branch_there k older q (omega arith)) ∙ blocks_there (branch older q) (branch_within q)

  pub blocks-new : ◌≡◌ {A = List B} (blocks_at names more (branch more new)) (k.block ∷ blocks_at names older (branch older k.parent))
  blocks-new =
      ap (blocks_at names more) (branch_here k older new refl) ∙ ap (λ (b : B). b ∷ blocks_at names more (branch older k.parent)) block_here
      ∙ ap (λ (l : List B). k.block ∷ l) (blocks_there (branch older k.parent) (branch_within k.parent))

module _ {B : Type 0} (s : State B) (k : Kept B) where
  abbrev larger : State B
  larger = record s { blocks = k ∷ s.blocks }

  pub better_there : (a c : ℕ) → a ≤ length s.blocks → c ≤ length s.blocks → beats larger a c ≡ beats s a c
  unfolding beats rank
  better_there a c h g =
      ap (λ n. ltb (height (k ∷ s.blocks) c) n || (eqb n (height (k ∷ s.blocks) c) && (ltb (rank s c) (rank s a) || (eqb (rank s a) (rank s c) && ltb a c)))) (height_there k s.blocks a h)
      ∙ ap (λ n. ltb n (height s.blocks a) || (eqb (height s.blocks a) n && (ltb (rank s c) (rank s a) || (eqb (rank s a) (rank s c) && ltb a c)))) (height_there k s.blocks c g)

  pub usable_there : (q : ℕ) → q ≤ length s.blocks → has_no_mark larger q ≡ has_no_mark s q
  unfolding has_no_mark
  usable_there q h = ap (list_all (λ x. not (has s.bad x))) (branch_there k s.blocks q (omega arith))

  pub usable_new : has s.bad (suc (length s.blocks)) ≡ false → has_no_mark larger (suc (length s.blocks)) ≡ has_no_mark s k.parent
  unfolding has_no_mark
  usable_new e =
      ap (list_all (λ x. not (has s.bad x))) (branch_here k s.blocks (suc (length s.blocks)) refl)
      ∙ ap (λ b. not b && list_all (λ x. not (has s.bad x)) (branch s.blocks k.parent)) e

-- an id's place is a kept one
pub place-bound : {B I : Type 0} (names : Naming B I) (t : Blocks B) (i : I) (p : ℕ) → place_of names t i ≡ Some p → p ≤ length t
unfolding place_of
place-bound names [] i p e =
    elim (names.same_id names.genesis_id i) as (λ b. cond b (Some 0) None ≡ Some p → p ≤ 0) [
      | true ↦ λ e. let q : 0 ≡ p = cc in omega arith
      | false ↦ λ e. cc
    ] e
place-bound names (k ∷ older) i p e =
    elim (names.same_id (names.id_of k.block) i) as (λ b. cond b (Some (suc (length older))) (place_of names older i) ≡ Some p → p ≤ suc (length older)) [
      | true ↦ λ e. let q : suc (length older) ≡ p = cc in omega arith
      | false ↦ λ e. let q = place-bound names older i p e in omega arith
    ] e
