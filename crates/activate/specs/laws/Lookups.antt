-- Where blocks of a branch stand, and where two branches part.
use Rattle.std.proofs.Common.{◌≡◌, ℕ, suc, ◌+◌, ◌-◌, ◌<◌, ◌≤◌, Bool, true, false, cond, ◌&&◌, eqb, ltb, List, [], ◌∷◌, length, reverse, get_or, Option, None, Some, sym, refl, ap, ◌∙◌, subst, inl, inr, arith}
use Rattle.std.specs.List.{find}
use Rattle.std.specs.Prelude.{slice_get}
use Rattle.std.proofs.lemmas.Bool.{eq-eqb, ne_eqb, cases_Bool, cases_eq}
use Rattle.std.proofs.lemmas.List.{get_or_default}
use Rattle.std.proofs.lemmas.Option.{get_or_from_slice_get, slice_get_cases, slice_get_within}
use Rattle.block.specs.declared.block.Block.{Block}
use Rattle.block.specs.StoredBlock.{genesis_alone}
use Rattle.coins.specs.declared.coin.Coin.{Coin}
use Rattle.coins.specs.Coins.{Coins}
use Rattle.connect.specs.Turns.{turns, undo_of}
use Rattle.tree.specs.Branches.{Blocks, branch, before, on, height, parent_at, block_at}
use Rattle.tree.specs.Names.{names}
use Rattle.tree.specs.Tips.{last_shared}
use Rattle.tree.specs.laws.Above.{last-shared}
use Rattle.tree.specs.laws.Branches.{branch_head, branch-genesis, height-genesis, on-bounds, on-genesis, on-itself}
use Rattle.tree.specs.laws.Parents.{branch-parent, height-parent, parent-kept, climb}
use Rattle.tree.specs.laws.Walks.{on_by_height, shared_here, shared_below}
use Rattle.activate.specs.CoreState.{coins_after}
use Rattle.activate.specs.Lookups.{ancestor_at, depth_at, spent_at, undo_at}
use Rattle.activate.specs.inside.Disconnection.{place_at}
use Rattle.activate.specs.inside.Kept.{highest_undo}
use Rattle.activate.specs.laws.ByHeight.{place-genesis, place-high, place-kept, place-of, place-on, places-long, undo-above}
use Rattle.activate.specs.laws.OtherBranch.{highest-long}

module _ {B : Type 0} (t : Blocks B) where
  -- ---- the block of a branch at a height

  module _ (h : ℕ) where
    abbrev stands : ℕ → Bool
    stands x = eqb (height t x) h

    pub ancestor-here : (p : ℕ) → p ≤ length t → height t p ≡ h → ancestor_at t p h ≡ Some p
    unfolding ancestor_at
    ancestor-here p k e = ap (find stands) (branch_head t p k) ∙ ap (λ b. cond b (Some p) (find stands (before t p))) (eq-eqb (height t p) h e)

    pub ancestor-below : (p : ℕ) → 0 < p → p ≤ length t → h < height t p → ancestor_at t p h ≡ ancestor_at t (parent_at t p) h
    unfolding ancestor_at
    ancestor-below p z k l =
        ap (find stands) (branch-parent t p z k) ∙ ap (λ b. cond b (Some p) (find stands (branch t (parent_at t p)))) (ne_eqb (height t p) h (omega arith))

    none-of-genesis : height t 0 < h → ancestor_at t 0 h ≡ None
    unfolding ancestor_at
    none-of-genesis l = ap (find stands) (branch-genesis t) ∙ ap (λ b. cond b (Some 0) None) (ne_eqb (height t 0) h (omega arith))

    none-above : (p : ℕ) → 0 < p → p ≤ length t → height t p < h → ancestor_at t (parent_at t p) h ≡ None → ancestor_at t p h ≡ None
    unfolding ancestor_at
    none-above p z k l e =
        ap (find stands) (branch-parent t p z k) ∙ ap (λ b. cond b (Some p) (find stands (branch t (parent_at t p)))) (ne_eqb (height t p) h (omega arith)) ∙ e

    -- none is above the last
    pub ancestor-none : (p : ℕ) → p ≤ length t → height t p < h → ancestor_at t p h ≡ None
    ancestor-none p k l =
        climb t 0 (λ x. height t x < h → ancestor_at t x h ≡ None) none-of-genesis
        (λ x z m o up low. let e = height-parent t x z m in none-above x z m low (up (omega arith)))
        p k (on-genesis t p) l

    -- a block of the branch at this height is the one
    pub ancestor-on : (a x : ℕ) → a ≤ length t → on t a x ≡ true → height t x ≡ h → ancestor_at t a h ≡ Some x
    ancestor-on a x k o e =
        (climb t x (λ y. (h ≤ height t y) × (ancestor_at t y h ≡ Some x))
        (omega arith, ancestor-here x (on-bounds t a x o).1 e)
        (λ y l m r up. let g = height-parent t y (omega arith) m in let u = up.0 in (omega arith, ancestor-below y (omega arith) m (omega arith) ∙ up.1))
        a k o).1

    -- of a branch by height, the one at this place
    pub ancestor-by_height : (a : ℕ) → a ≤ length t → h ≤ height t a → ancestor_at t a h ≡ Some (place_at (reverse (branch t a)) h)
    ancestor-by_height a k l = ancestor-on a (place_at (reverse (branch t a)) h) k (place-on t a k h l) (place-high t a k h l)

  -- a block above a height isn't genesis
  pub above-genesis : (h p : ℕ) → h < height t p → 0 < p
  above-genesis h p l = elim (cases_eq 0 p) [ inl e ↦ let g = height-genesis t in let f = ap (height t) e in absurd (omega arith) | inr e ↦ omega arith ]

  -- ---- the last block of two branches

  -- it is one block, whichever branch is named first
  pub shared-either : (a p : ℕ) → a ≤ length t → p ≤ length t → last_shared t a p ≡ last_shared t p a
  shared-either a p j k =
      let w = last-shared t a p k in
      let v = last-shared t p a j in
      let one = (on-bounds t (last_shared t a p) (last_shared t p a) (w.last (last_shared t p a) v.there v.here)).0 in
      let other = (on-bounds t (last_shared t p a) (last_shared t a p) (v.last (last_shared t a p) w.there w.here)).0 in
      omega arith

  -- a block that came later isn't on the branch
  not-later : (a p : ℕ) → a < p → on t a p ≡ false
  not-later a p l = elim (cases_Bool (on t a p)) [ inl o ↦ let b = (on-bounds t a p o).0 in absurd (omega arith) | inr o ↦ o ]

  pub fork-end : (a : ℕ) → a ≤ length t → last_shared t a a ≡ a
  fork-end a k = shared_here t a a k (on-itself t a k)

  pub fork-right : (a p : ℕ) → a < p → p ≤ length t → last_shared t a p ≡ last_shared t a (parent_at t p)
  fork-right a p l k = shared_below t a p (omega arith) k (not-later a p l)

  pub fork-left : (a p : ℕ) → p < a → a ≤ length t → last_shared t a p ≡ last_shared t (parent_at t a) p
  fork-left a p l k =
      let up = parent-kept t a (omega arith) k in
      shared-either a p k (omega arith) ∙ fork-right p a l k ∙ shared-either p (parent_at t a) (omega arith) up

-- ---- genesis

block-genesis : (t : Blocks Block) → block_at names t 0 ≡ genesis_alone
unfolding block_at
block-genesis [] = refl
block-genesis (l ∷ older) = ap (λ b. cond b l.block (block_at names older 0)) (ne_eqb (suc (length older)) 0 (omega arith)) ∙ block-genesis older

none-spent : (h : ℕ) (m : Coins) → undo_of h m [] ≡ []
unfolding undo_of turns
none-spent h m = refl

undo-genesis : (t : Blocks Block) → undo_at t 0 ≡ []
unfolding undo_at
undo-genesis t = ap (λ b. undo_of (height t 0) (coins_after t (parent_at t 0)) b.txs) (block-genesis t) ∙ none-spent (height t 0) (coins_after t (parent_at t 0))

-- ---- a branch by height

some-none : (x : ℕ) → ◌≡◌ {A = Option ℕ} (Some x) None → ⊥
some-none x e = cc

module _ (t : Blocks Block) (a : ℕ) (k : a ≤ length t) (places : List ℕ) (is : places ≡ reverse (branch t a)) where
  long : length places ≡ suc (height t a)
  long = ap (λ (l : List ℕ). length l) is ∙ places-long t a k

  -- the place that is there is kept, and is the one at that height
  pub by_height-some : (h x : ℕ) → slice_get places h ≡ Some x → (x ≤ length t) × (ancestor_at t a h ≡ Some x)
  by_height-some h x e =
      let within = slice_get_within places h x e in
      let size = long in
      let l : h ≤ height t a = omega arith in
      let at : place_at (reverse (branch t a)) h ≡ x = ap (λ (p : List ℕ). get_or p h 0) (sym is) ∙ get_or_from_slice_get places h x 0 e in
      (subst (λ y. y ≤ length t) at (place-kept t a k h l), ancestor-by_height t h a k l ∙ ap Some at)

  pub by_height-none : (h : ℕ) → slice_get places h ≡ None → ancestor_at t a h ≡ None
  by_height-none h e =
      elim (slice_get_cases places h).1 [
        | inl w ↦ absurd (some-none w.0 (sym w.2 ∙ e))
        | inr w ↦ let size = long in let past = w.0 in ancestor-none t h a k (omega arith)
      ]

  -- what the test says whether a block stands there
  pub stands-on : (x h : ℕ) (b : Bool) → b ≡ (ltb h (length places) && eqb (get_or places h 0) x) → h ≡ height t x → on t a x ≡ b
  stands-on x h b e g =
      sym (e ∙ ap (λ (l : List ℕ). ltb h (length l) && eqb (get_or l h 0) x) is
      ∙ ap (λ (i : ℕ). ltb i (length (reverse (branch t a))) && eqb (get_or (reverse (branch t a)) i 0) x) g ∙ on_by_height t a x k)

  -- ---- what active blocks spent

  module _ (packed : List (List (List Coin))) (are : packed ≡ highest_undo t a (height t a)) where
    pub packed-size : length packed ≡ height t a
    packed-size = ap (λ (l : List (List (List Coin))). length l) are ∙ highest-long t a (height t a) k (omega arith)

    pub packed-at : (x : ℕ) → on t a x ≡ true → (h : ℕ) → h ≡ height t x → 0 < h → (spent other : List (List Coin)) → spent ≡ get_or packed (h - 1) other → spent ≡ undo_at t x
    packed-at x o h high some spent other e =
        let size = packed-size in
        let at = place-of t a k x o in
        let low = at.0 in
        let few : length packed ≤ height t a = omega arith in
        e ∙ get_or_default packed (h - 1) other [] (omega arith)
        ∙ undo-above t a k packed (are ∙ ap (highest_undo t a) (sym size)) few (h - 1) (omega arith)
        ∙ ap (λ j. undo_at t (place_at (reverse (branch t a)) j)) {x = suc (height t a - length packed + (h - 1))} {y = height t x} (omega arith)
        ∙ ap (undo_at t) at.1

    -- genesis spent nothing
    pub undo-first : (x : ℕ) → on t a x ≡ true → height t x ≡ 0 → undo_at t x ≡ []
    undo-first x o e = ap (undo_at t) (sym (place-of t a k x o).1 ∙ ap (place_at (reverse (branch t a))) e ∙ place-genesis t a k) ∙ undo-genesis t

-- ---- of a block that is on the active branch, and of one that isn't

module _ {B : Type 0} (t : Blocks B) (a p : ℕ) where
  pub depth-on : on t a p ≡ true → depth_at t a p ≡ Some (suc (height t a - height t p))
  unfolding depth_at
  depth-on o = ap (λ b. cond b (Some (suc (height t a - height t p))) None) o

  pub depth-off : on t a p ≡ false → depth_at t a p ≡ None
  unfolding depth_at
  depth-off o = ap (λ b. cond b (Some (suc (height t a - height t p))) None) o

module _ (t : Blocks Block) (a p : ℕ) where
  pub spent-on : on t a p ≡ true → spent_at t a p ≡ Some (undo_at t p)
  unfolding spent_at
  spent-on o = ap (λ b. cond b (Some (undo_at t p)) None) o

  pub spent-off : on t a p ≡ false → spent_at t a p ≡ None
  unfolding spent_at
  spent-off o = ap (λ b. cond b (Some (undo_at t p)) None) o
