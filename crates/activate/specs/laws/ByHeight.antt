-- The places of a branch by height.
use Rattle.std.proofs.Common.{◌≡◌, ℕ, zero, suc, ◌+◌, ◌-◌, ◌<◌, ◌≤◌, true, eqb, ltb, List, [], ◌∷◌, ◌++◌, length, map, reverse, take, get_or, sym, ap, ◌∙◌, subst, inl, inr, arith}
use Rattle.std.proofs.lemmas.Bool.{cases_eq, and_parts, ltb-true, eqb-true}
use Rattle.std.proofs.lemmas.List.{length-append, length-reverse, length-map, length-take-le, get_or-reverse, get_or-map, get_or-take}
use Rattle.block.specs.declared.block.Block.{Block}
use Rattle.coins.specs.declared.coin.Coin.{Coin}
use Rattle.coins.specs.Coins.{Coins}
use Rattle.connect.specs.BlockContext.{Setting}
use Rattle.connect.specs.ConnectedBlock.{IsConnected}
use Rattle.tree.specs.Branches.{Blocks, branch, on, height, parent_at, block_at, blocks_at}
use Rattle.tree.specs.Names.{names}
use Rattle.tree.specs.laws.Branches.{branch_head, branch-genesis, on-bounds, on-genesis, height-genesis}
use Rattle.tree.specs.laws.Parents.{branch-parent, height-parent, climb}
use Rattle.tree.specs.laws.Walks.{has_at, on_by_height}
use Rattle.activate.specs.CoreState.{coins_after}
use Rattle.activate.specs.Lookups.{undo_at}
use Rattle.activate.specs.inside.Kept.{highest_undo}
use Rattle.activate.specs.inside.Paths.{AreConnected}
use Rattle.activate.specs.inside.Disconnection.{place_at, IsConnectedBranch, IsUndoAbove}

-- ---- one step up a branch

module _ {B : Type 0} (t : Blocks B) where
  -- the place at a height
  abbrev at : ℕ → ℕ → ℕ
  at p h = get_or (branch t p) (length (branch t p) - 1 - h) 0

  -- each place above genesis has the one below it as its parent
  abbrev IsAscent : ℕ → Type 0
  IsAscent p = (h : ℕ) → suc h < length (branch t p) → (0 < at p (suc h)) × (parent_at t (at p (suc h)) ≡ at p h)

  module _ (p : ℕ) (z : 0 < p) (k : p ≤ length t) where
    abbrev q : ℕ
    q = parent_at t p

    down : ◌≡◌ {A = List ℕ} (branch t p) (p ∷ branch t q)
    down = branch-parent t p z k

    lower : (h : ℕ) → h < length (branch t q) → at p h ≡ at q h
    lower h l =
        ap (λ (b : List ℕ). get_or b (length b - 1 - h) 0) down
        ∙ ap (λ i. get_or (p ∷ branch t q) i 0) {x = length (p ∷ branch t q) - 1 - h} {y = suc (length (branch t q) - 1 - h)} (omega arith)

    top : (h : ℕ) → h ≡ length (branch t q) → at p h ≡ p
    top h e =
        ap (λ (b : List ℕ). get_or b (length b - 1 - h) 0) down
        ∙ ap (λ i. get_or (p ∷ branch t q) i 0) {x = length (p ∷ branch t q) - 1 - h} {y = 0} (omega arith)

    up : (q ≤ length t) → IsAscent q → IsAscent p
    up kept below h l =
        let long = ap (λ (b : List ℕ). length b) down in
        elim (cases_eq (suc h) (length (branch t q))) [
          | inl e ↦
              let new = top (suc h) e in
              let old : at p h ≡ q =
              lower h (omega arith) ∙ ap (λ i. get_or (branch t q) i 0) {x = length (branch t q) - 1 - h} {y = 0} (omega arith) ∙ ap (λ (b : List ℕ). get_or b 0 0) (branch_head t q kept) in
              (subst (λ x. 0 < x) (sym new) z, ap (parent_at t) new ∙ sym old)
          | inr n ↦
              let new = lower (suc h) (omega arith) in
              let old = lower h (omega arith) in
              let w = below h (omega arith) in
              (subst (λ x. 0 < x) (sym new) w.0, ap (parent_at t) new ∙ w.1 ∙ sym old)
        ]

  climbs : (p : ℕ) → p ≤ length t → IsAscent p
  climbs p k =
      climb t 0 IsAscent (λ h l. let one = ap (λ (b : List ℕ). length b) (branch-genesis t) in absurd (omega arith)) (λ x z l o below. up x z l (on-bounds t x (parent_at t x) (Rattle.tree.specs.laws.Parents.on-parent t x z l)).1 below)
      p k (on-genesis t p)

-- ---- the places by height

module _ {B : Type 0} (t : Blocks B) (a : ℕ) (k : a ≤ length t) where
  abbrev places : List ℕ
  places = reverse (branch t a)

  pub places-long : length places ≡ suc (height t a)
  unfolding height
  places-long = length-reverse (branch t a) ∙ ap (λ (b : List ℕ). length b) (branch_head t a k)

  long : length (branch t a) ≡ suc (height t a)
  long = sym (length-reverse (branch t a)) ∙ places-long

  by_height : (h : ℕ) → h < length (branch t a) → place_at places h ≡ at t a h
  by_height h l = get_or-reverse (branch t a) h 0 l

  -- a block of the branch stands at its height
  pub place-of : (x : ℕ) → on t a x ≡ true → (height t x ≤ height t a) × (place_at places (height t x) ≡ x)
  place-of x o =
      let b = and_parts (ltb (height t x) (length places)) (eqb (place_at places (height t x)) x) (on_by_height t a x k ∙ o) in
      let l = ltb-true (height t x) (length places) b.0 in
      let n = places-long in
      (omega arith, eqb-true (place_at places (height t x)) x b.1)

  pub place-on : (h : ℕ) → h ≤ height t a → on t a (place_at places h) ≡ true
  unfolding on
  place-on h l =
      let n = long in
      subst (λ x. on t a x ≡ true) (sym (by_height h (omega arith))) (has_at (branch t a) (length (branch t a) - 1 - h) 0 (omega arith))

  pub place-above : (h : ℕ) → suc h ≤ height t a → 0 < place_at places (suc h)
  place-above h l = let n = long in subst (λ x. 0 < x) (sym (by_height (suc h) (omega arith))) (climbs t a k h (omega arith)).0

  pub place-parent : (h : ℕ) → suc h ≤ height t a → parent_at t (place_at places (suc h)) ≡ place_at places h
  place-parent h l =
      let n = long in
      ap (parent_at t) (by_height (suc h) (omega arith)) ∙ (climbs t a k h (omega arith)).1 ∙ sym (by_height h (omega arith))

  pub place-genesis : place_at places 0 ≡ 0
  place-genesis = ap (place_at places) (sym (height-genesis t)) ∙ (place-of 0 (on-genesis t a)).1

  pub place-kept : (h : ℕ) → h ≤ height t a → place_at places h ≤ length t
  place-kept h l = (on-bounds t a (place_at places h) (place-on h l)).1

  pub place-high : (h : ℕ) → h ≤ height t a → height t (place_at places h) ≡ h
  place-high zero l = ap (height t) place-genesis ∙ height-genesis t
  place-high (suc h) l =
      height-parent t (place_at places (suc h)) (place-above h l) (place-kept (suc h) l)
      ∙ ap (λ x. suc (height t x)) (place-parent h l)
      ∙ ap suc (place-high h (omega arith))

-- ---- a branch that was connected

module _ (t : Blocks Block) (a : ℕ) (k : a ≤ length t) where
  pub connected-branch : AreConnected t a → IsConnectedBranch t (reverse (branch t a))
  connected-branch each =
      let n = places-long t a k in
      record {
        kept = λ h l. let w = place-kept t a k h (omega arith) in omega arith;
        high = λ h l. place-high t a k h (omega arith);
        parent = λ h l. place-parent t a k h (omega arith);
        connected = λ h l. each (place_at (reverse (branch t a)) (suc h)) (place-above t a k h (omega arith)) (place-on t a k (suc h) (omega arith));
      }

  -- the undo of its highest blocks, by height
  pub undo-above : (undo : List (List (List Coin))) → undo ≡ highest_undo t a (length undo) → length undo ≤ height t a → IsUndoAbove t (reverse (branch t a)) (height t a - length undo) undo
  unfolding highest_undo
  undo-above undo is few i l =
      let n = length undo in
      let all = take n (branch t a) in
      let size = long t a k in
      let some : length (take n (branch t a)) ≡ n = length-take-le n (branch t a) (omega arith) in
      let many : length (map (undo_at t) all) ≡ n = length-map all (undo_at t) ∙ some in
      ap (λ (u : List (List (List Coin))). get_or u i []) is
      ∙ get_or-reverse (map (undo_at t) all) i [] (omega arith)
      ∙ ap (λ j. get_or (map (undo_at t) all) j []) {x = length (map (undo_at t) all) - 1 - i} {y = n - 1 - i} (omega arith)
      ∙ get_or-map (undo_at t) all (n - 1 - i) 0 [] (omega arith)
      ∙ ap (undo_at t) (get_or-take n (branch t a) (n - 1 - i) 0 (omega arith))
      ∙ ap (λ j. undo_at t (get_or (branch t a) j 0)) {x = n - 1 - i} {y = length (branch t a) - 1 - suc (height t a - n + i)} (omega arith)
      ∙ ap (undo_at t) (sym (by_height t a k (suc (height t a - n + i)) (omega arith)))

-- ---- one block of such a branch

module _ (t : Blocks Block) (places : List ℕ) (branch : IsConnectedBranch t places) (h : ℕ) (l : suc h < length places) where
  abbrev p : ℕ
  p = place_at places (suc h)

  -- where it was connected
  abbrev pub step-setting : Setting
  step-setting = (branch.connected h l).setting

  -- it led from the coins of the block below to its own
  pub step-connected : (m : Coins) (block : Block) (n : Coins) (undo : List (List Coin)) → m ≡ coins_after t (place_at places h) → block ≡ block_at names t p → n ≡ coins_after t p → undo ≡ undo_at t p
      → IsConnected step-setting m block n undo
  step-connected m block n undo e f g u =
      let w = branch.connected h l in
      subst (λ (x : List (List Coin)). IsConnected w.setting m block n x) (sym u)
      (subst (λ (x : Coins). IsConnected w.setting m block x (undo_at t p)) (sym g)
      (subst (λ (x : Block). IsConnected w.setting m x (coins_after t p) (undo_at t p)) (sym f)
      (subst (λ (x : Coins). IsConnected w.setting x (block_at names t p) (coins_after t p) (undo_at t p)) (ap (coins_after t) (branch.parent h l) ∙ sym e) w.connected)))
