-- What is kept of the active branch, when another block becomes the active one: the part up to the fork stays.
use Rattle.std.proofs.Common.{◌≡◌, ℕ, zero, suc, ◌+◌, ◌-◌, ◌≤◌, min, List, [], ◌∷◌, ◌++◌, length, map, reverse, take, drop, sym, refl, ap, ◌∙◌, inl, inr, true, eqb, arith}
use Rattle.std.proofs.lemmas.Bool.{or_cases, or_left}
use Rattle.std.proofs.lemmas.List.{map-append, map-id, reverse-append, take-append-drop, take-take, take-map, length-take, length-drop, length-append, length-map, length-reverse}
use Rattle.block.specs.declared.block.Block.{Block}
use Rattle.coins.specs.declared.coin.Coin.{Coin}
use Rattle.tree.specs.Branches.{Blocks, has, branch, on, height, parent_at, block_at, blocks_at}
use Rattle.tree.specs.MedianTime.{median_time_past}
use Rattle.tree.specs.Names.{names}
use Rattle.tree.specs.laws.Branches.{branch_head, branch-genesis, on-bounds, on-genesis}
use Rattle.tree.specs.laws.Parents.{branch-parent, climb}
use Rattle.tree.specs.laws.Sets.{has_there}
use Rattle.tree.specs.laws.Above.{above, above-rest}
use Rattle.activate.specs.declared.path.BranchPath.{BranchPath}
use Rattle.model.specs.Regtest.{medians_of}
use Rattle.activate.specs.CoreState.{branch_blocks, most_undo}
use Rattle.activate.specs.Lookups.{undo_at}
use Rattle.activate.specs.inside.Kept.{highest_undo, IsBranch}
use Rattle.activate.specs.inside.ActiveBranch.{median_at, last_of}
use Rattle.activate.specs.inside.Paths.{IsPath}

-- ---- lists

cut : {A : Type 0} (xs ys : List A) → take (length xs) (xs ++ ys) ≡ xs
cut [] ys = refl
cut (x ∷ xs) ys = ap (λ l. x ∷ l) (cut xs ys)

rest : {A : Type 0} (xs ys : List A) → drop (length xs) (xs ++ ys) ≡ ys
rest [] ys = refl
rest (x ∷ xs) ys = rest xs ys

-- the end of a list that is turned round is the beginning, turned round
pub turned : {A : Type 0} (n : ℕ) (l : List A) → reverse l ≡ reverse (drop n l) ++ reverse (take n l)
turned n l = ap reverse (sym (take-append-drop n l)) ∙ reverse-append (take n l) (drop n l)

pub turned_first : {A : Type 0} (n k : ℕ) (l : List A) → k ≡ length (drop n l) → take k (reverse l) ≡ reverse (drop n l)
turned_first n k l e =
    ap (take k) (turned n l) ∙ ap (λ i. take i (reverse (drop n l) ++ reverse (take n l))) (e ∙ sym (length-reverse (drop n l))) ∙ cut (reverse (drop n l)) (reverse (take n l))

pub turned_last : {A : Type 0} (n k : ℕ) (l : List A) → k ≡ length (drop n l) → drop k (reverse l) ≡ reverse (take n l)
turned_last n k l e =
    ap (drop k) (turned n l) ∙ ap (λ i. drop i (reverse (drop n l) ++ reverse (take n l))) (e ∙ sym (length-reverse (drop n l))) ∙ rest (reverse (drop n l)) (reverse (take n l))

-- of a list with a beginning, as many as that is long, and some of the rest
over : {A : Type 0} (xs ys : List A) (n : ℕ) → xs ++ take n ys ≡ take (length xs + n) (xs ++ ys)
over [] ys n = ap (λ k. take k ys) {x = n} {y = 0 + n} (omega arith)
over (x ∷ xs) ys n = ap (λ l. x ∷ l) (over xs ys n) ∙ ap (λ k. take k (x ∷ (xs ++ ys))) {x = suc (length xs + n)} {y = suc (length xs) + n} (omega arith)

-- the rest of some of a list with a beginning, if that is let go
beyond : {A : Type 0} (xs ys : List A) (n : ℕ) → drop (length xs) (take n (xs ++ ys)) ≡ take (n - length xs) ys
beyond [] ys n = ap (λ k. take k ys) {x = n} {y = n - 0} (omega arith)
beyond (x ∷ xs) ys zero = sym (ap (λ k. take k ys) {x = 0 - suc (length xs)} {y = 0} (omega arith))
beyond (x ∷ xs) ys (suc n) = beyond xs ys n ∙ ap (λ k. take k ys) {x = n - length xs} {y = suc n - suc (length xs)} (omega arith)

-- ---- the branch

module _ (t : Blocks Block) (a p : ℕ) (h : a ≤ length t) (k : p ≤ length t) (path : BranchPath) (is : IsPath t a p path) where
  abbrev f : ℕ
  f = path.fork

  down : ◌≡◌ {A = List ℕ} (branch t a) (above t a f ++ branch t f)
  down = above-rest t a f h is.shared.here

  up : ◌≡◌ {A = List ℕ} (branch t p) (path.up.items ++ branch t f)
  up = above-rest t p f k is.shared.there ∙ ap (λ (l : List ℕ). l ++ branch t f) (sym is.up)

  f_kept : f ≤ length t
  f_kept = (on-bounds t a f is.shared.here).1

  long : (q : ℕ) → q ≤ length t → length (branch t q) ≡ suc (height t q)
  unfolding height
  long q l = ap (λ (k : List ℕ). length k) (branch_head t q l)

  -- how many blocks are let go, and how many come
  pub gone : length (above t a f) + path.height ≡ height t a
  gone =
      let d = ap (λ (l : List ℕ). length l) down ∙ length-append (above t a f) (branch t f) in
      let e = long a h in
      let g = long f f_kept in
      let w = is.high in
      omega arith

  pub come : length path.up.items + path.height ≡ height t p
  come =
      let d = ap (λ (l : List ℕ). length l) up ∙ length-append path.up.items (branch t f) in
      let e = long p k in
      let g = long f f_kept in
      let w = is.high in
      omega arith

  -- a block of the path up is on the branch, so it is kept
  pub up_kept : (x : ℕ) → has path.up.items x ≡ true → x ≤ length t
  unfolding on
  up_kept x o = (on-bounds t p x (ap (λ (l : List ℕ). has l x) up ∙ has_front x path.up.items (branch t f) o)).1
    where
      has_front : (x : ℕ) (k l : List ℕ) → has k x ≡ true → has (k ++ l) x ≡ true
      has_front x [] l o = cc
      has_front x (y ∷ k) l o = elim (or_cases (eqb y x) (has k x) o) [ inl e ↦ or_left (eqb y x) (has (k ++ l) x) e | inr e ↦ has_there y x (k ++ l) (has_front x k l e) ]

  module _ {A : Type 0} (g : ℕ → A) where
    above_gone : drop (length (above t a f)) (map g (branch t a)) ≡ map g (branch t f)
    above_gone =
        ap (λ (l : List ℕ). drop (length (above t a f)) (map g l)) down
        ∙ ap (λ (l : List A). drop (length (above t a f)) l) (map-append g (above t a f) (branch t f))
        ∙ ap (λ n. drop n (map g (above t a f) ++ map g (branch t f))) (sym (length-map (above t a f) g))
        ∙ rest (map g (above t a f)) (map g (branch t f))

    -- by height: what is kept of each block, up to the fork
    pub kept_below : take (suc path.height) (reverse (map g (branch t a))) ≡ reverse (map g (branch t f))
    kept_below =
        turned_first (length (above t a f)) (suc path.height) (map g (branch t a))
        (sym (ap (λ (l : List A). length l) above_gone ∙ length-map (branch t f) g ∙ long f f_kept ∙ ap suc (sym is.high)))
        ∙ ap reverse above_gone

    -- and then of those above it
    pub kept_above : reverse (map g (branch t f)) ++ reverse (map g path.up.items) ≡ reverse (map g (branch t p))
    kept_above =
        sym (reverse-append (map g path.up.items) (map g (branch t f)))
        ∙ ap (λ (l : List A). reverse l) (sym (map-append g path.up.items (branch t f)))
        ∙ ap (λ (l : List ℕ). reverse (map g l)) (sym up)

  -- ---- undo

  module _ (n : ℕ) (few : n ≤ height t a) where
    abbrev left : ℕ
    left = n - length (above t a f)

    -- the undo of the blocks that go is let go
    pub undo_below : take left (highest_undo t a n) ≡ highest_undo t f left
    unfolding highest_undo
    undo_below =
        let all = take n (branch t a) in
        let below : drop (length (above t a f)) (map (undo_at t) all) ≡ map (undo_at t) (take left (branch t f)) =
        ap (λ (l : List ℕ). drop (length (above t a f)) (map (undo_at t) (take n l))) down
        ∙ drop_map (undo_at t) (length (above t a f)) (take n (above t a f ++ branch t f))
        ∙ ap (map (undo_at t)) (beyond (above t a f) (branch t f) n) in
        let lower = gone in
        let d = long f f_kept in
        let w = is.high in
        let size : length (map (undo_at t) (take left (branch t f))) ≡ left =
        length-map (take left (branch t f)) (undo_at t) ∙ length-take left (branch t f) ∙ least left (length (branch t f)) (omega arith) in
        turned_first (length (above t a f)) left (map (undo_at t) all) (sym (ap (λ (l : List (List (List Coin))). length l) below ∙ size))
        ∙ ap (λ (l : List (List (List Coin))). reverse l) below
      where
        drop_map : {A B : Type 0} (g : A → B) (i : ℕ) (l : List A) → drop i (map g l) ≡ map g (drop i l)
        drop_map g zero l = refl
        drop_map g (suc i) [] = refl
        drop_map g (suc i) (x ∷ l) = drop_map g i l

        least : (x y : ℕ) → x ≤ y → min x y ≡ x
        least x y l = omega arith

    abbrev most : ℕ
    most = length path.up.items + left

    -- and the undo of the blocks that come is added
    undo_whole : highest_undo t f left ++ reverse (map (undo_at t) path.up.items) ≡ highest_undo t p most
    unfolding highest_undo
    undo_whole =
        sym (reverse-append (map (undo_at t) path.up.items) (map (undo_at t) (take left (branch t f))))
        ∙ ap (λ (l : List (List (List Coin))). reverse l) (sym (map-append (undo_at t) path.up.items (take left (branch t f))))
        ∙ ap (λ (l : List ℕ). reverse (map (undo_at t) l)) (over path.up.items (branch t f) left ∙ ap (take most) (sym up))

    undo_long : length (highest_undo t p most) ≡ most
    unfolding highest_undo
    undo_long =
        let c = come in
        let w = long p k in
        let g = gone in
        length-reverse (map (undo_at t) (take most (branch t p))) ∙ length-map (take most (branch t p)) (undo_at t) ∙ length-take most (branch t p) ∙ omega arith

    -- its last items are the undo of the highest blocks
    undo_newest : (m : ℕ) → m ≤ most → drop (most - m) (highest_undo t p most) ≡ highest_undo t p m
    unfolding highest_undo
    undo_newest m l =
        let size : most - m ≡ length (drop m (map (undo_at t) (take most (branch t p)))) =
        sym (length-drop m (map (undo_at t) (take most (branch t p))) ∙ ap (λ i. i - m) (sym (length-reverse (map (undo_at t) (take most (branch t p)))) ∙ (unfold highest_undo in undo_long))) in
        turned_last m (most - m) (map (undo_at t) (take most (branch t p))) size
        ∙ ap (λ (l : List (List (List Coin))). reverse l) (take-map (undo_at t) m (take most (branch t p)))
        ∙ ap (λ (l : List ℕ). reverse (map (undo_at t) l)) (take-take m most (branch t p) l)

    -- of so many blocks it is kept then
    abbrev count : ℕ
    count = min most_undo most

    undo_kept : last_of most_undo (highest_undo t p most) ≡ highest_undo t p count
    unfolding last_of
    undo_kept =
        let size = undo_long in
        ap (λ i. drop i (highest_undo t p most)) {x = length (highest_undo t p most) - most_undo} {y = most - count} (omega arith) ∙ undo_newest count (omega arith)

-- the medians of a branch are those of its blocks
pub medians-branch : (t : Blocks Block) (p : ℕ) → p ≤ length t → medians_of (branch_blocks t p) ≡ map (median_at t) (branch t p)
medians-branch t p h =
    climb t 0 (λ x. medians_of (branch_blocks t x) ≡ map (median_at t) (branch t x))
    (ap (λ (l : List ℕ). medians_of (blocks_at names t l)) (branch-genesis t)
    ∙ sym (ap (λ (l : List ℕ). median_time_past (blocks_at names t l) ∷ []) (branch-genesis t))
    ∙ sym (ap (map (median_at t)) (branch-genesis t)))
    (λ x z k o e.
    ap (λ (l : List ℕ). medians_of (blocks_at names t l)) (branch-parent t x z k)
    ∙ ap (λ (l : List ℕ). median_time_past (block_at names t x ∷ branch_blocks t (parent_at t x)) ∷ l) e
    ∙ sym (ap (λ (l : List ℕ). median_time_past (blocks_at names t l) ∷ map (median_at t) (branch t (parent_at t x))) (branch-parent t x z k))
    ∙ sym (ap (map (median_at t)) (branch-parent t x z k)))
    p h (on-genesis t p)

pub highest-long : (t : Blocks Block) (p n : ℕ) → p ≤ length t → n ≤ height t p → length (highest_undo t p n) ≡ n
unfolding highest_undo height
highest-long t p n k l =
    let e = ap (λ (k : List ℕ). length k) (branch_head t p k) in
    length-reverse (map (undo_at t) (take n (branch t p))) ∙ length-map (take n (branch t p)) (undo_at t) ∙ length-take n (branch t p) ∙ omega arith

-- what is kept of a branch, led over to another one
pub turned_branch : (t : Blocks Block) (a p : ℕ) (h : a ≤ length t) (k : p ≤ length t) (path : BranchPath) (is : IsPath t a p path)
    (places medians : List ℕ) (undo packed more : List (List (List Coin))) → IsBranch t a places medians undo packed → more ≡ reverse (map (undo_at t) path.up.items)
    → IsBranch t p (take (suc path.height) places ++ reverse path.up.items) (take (suc path.height) medians ++ reverse (map (median_at t) path.up.items)) (last_of most_undo (take (length undo - (height t a - path.height)) undo ++ more)) (take path.height packed ++ more)
turned_branch t a p h k path is places medians undo packed more kept new =
    let n : ℕ = length undo in
    let few = kept.undo_above in
    let lower = gone t a p h k path is in
    let higher = come t a p h k path is in
    let left : ℕ = n - length (above t a path.fork) in
    let most : ℕ = length path.up.items + left in
    let all : ℕ = height t a - length (above t a path.fork) in
    let whole : last_of most_undo (take (n - (height t a - path.height)) undo ++ more) ≡ highest_undo t p (min most_undo most) =
    ap (λ i. last_of most_undo (take i undo ++ more)) {x = n - (height t a - path.height)} {y = left} (omega arith)
    ∙ ap (λ (l : List (List (List Coin))). last_of most_undo (take left l ++ more)) kept.undo_is
    ∙ ap (λ (l : List (List (List Coin))). last_of most_undo (l ++ more)) (undo_below t a p h k path is n few)
    ∙ ap (λ (l : List (List (List Coin))). last_of most_undo (highest_undo t path.fork left ++ l)) new
    ∙ ap (last_of most_undo) (undo_whole t a p h k path is n few)
    ∙ undo_kept t a p h k path is n few in
    let size : length (highest_undo t p (min most_undo most)) ≡ min most_undo most = highest-long t p (min most_undo most) k (omega arith) in
    let long : length (last_of most_undo (take (n - (height t a - path.height)) undo ++ more)) ≡ min most_undo most = ap (λ (l : List (List (List Coin))). length l) whole ∙ size in
    record {
      places_are =
          ap (λ (l : List ℕ). take (suc path.height) l ++ reverse path.up.items) (kept.places_are ∙ ap (λ (l : List ℕ). reverse l) (sym (map-id (branch t a))))
          ∙ ap (λ (l : List ℕ). l ++ reverse path.up.items) (kept_below t a p h k path is (λ x. x))
          ∙ ap (λ (l : List ℕ). reverse (map (λ x. x) (branch t path.fork)) ++ reverse l) (sym (map-id path.up.items))
          ∙ kept_above t a p h k path is (λ x. x)
          ∙ ap (λ (l : List ℕ). reverse l) (map-id (branch t p));
      medians_are =
          ap (λ (l : List ℕ). take (suc path.height) l ++ reverse (map (median_at t) path.up.items)) (kept.medians_are ∙ ap (λ (l : List ℕ). reverse l) (medians-branch t a h))
          ∙ ap (λ (l : List ℕ). l ++ reverse (map (median_at t) path.up.items)) (kept_below t a p h k path is (median_at t))
          ∙ kept_above t a p h k path is (median_at t)
          ∙ ap (λ (l : List ℕ). reverse l) (sym (medians-branch t p k));
      undo_is = whole ∙ ap (highest_undo t p) (sym long);
      undo_few = omega arith;
      undo_above = omega arith;
      packed_is =
          ap (λ i. take i packed ++ more) {x = path.height} {y = all} (omega arith)
          ∙ ap (λ (l : List (List (List Coin))). take all l ++ more) kept.packed_is
          ∙ ap (λ (l : List (List (List Coin))). l ++ more) (undo_below t a p h k path is (height t a) (omega arith))
          ∙ ap (λ (l : List (List (List Coin))). highest_undo t path.fork all ++ l) new
          ∙ undo_whole t a p h k path is (height t a) (omega arith)
          ∙ ap (highest_undo t p) {x = length path.up.items + all} {y = height t p} (omega arith);
    }
