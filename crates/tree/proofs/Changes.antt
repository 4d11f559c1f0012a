-- What a change of marks leaves, and what it changes.
use Rattle.std.proofs.Common.{◌≡◌, ℕ, suc, ◌<◌, ◌≤◌, Bool, true, false, not, ◌&&◌, ◌||◌, eqb, List, [], ◌∷◌, ◌++◌, length, reverse, get_or, take, drop, sym, refl, ap, ◌∙◌, subst, inl, inr, arith}
use Rattle.std.proofs.Math.ListN.{set}
use Rattle.std.proofs.Math.Seq.{take-append_seam}
use Rattle.std.proofs.lemmas.Bool.{cases_eq, eq-eqb, ne_eqb}
use Rattle.std.proofs.lemmas.List.{get_or_default, get_or-set_same, get_or-set_other, append_assoc}
use Rattle.hash.specs.declared.id.Id.{Id}
use Rattle.block.specs.declared.block.Block.{Block}
use Rattle.tree.specs.declared.block_index.BlockIndex.{BlockIndex}
use Rattle.tree.specs.declared.block_index.Mark.{Mark}
use Rattle.tree.specs.Branches.{Blocks, has, branch, on, parent_at}
use Rattle.tree.specs.State.{State, has_no_mark, rank, rank_in}
use Rattle.tree.specs.Nodes.{blocks_of, blank, mark_at, places_where, state_of}
use Rattle.tree.specs.inside.Nodes.{IsNode, IsRight, AreNodes, AreUsable}
use Rattle.tree.specs.laws.Sets.{all_agree}
use Rattle.tree.specs.laws.Branches.{on-bounds}
use Rattle.tree.specs.laws.Marks.{usable-parent, usable-genesis}
use Rattle.tree.proofs.Views.{length-blocks, has-where}

-- ---- one mark set

module _ (ms : List Mark) (p : ℕ) (m n : Mark) (h : p < length ms) (e : m ≡ get_or ms p m) where
  pub set_here : mark_at (set ms p n) p ≡ n
  set_here = get_or-set_same ms p n blank h

  pub set_there : (q : ℕ) → (q ≡ p → ⊥) → mark_at (set ms p n) q ≡ mark_at ms q
  set_there q w = get_or-set_other ms p q n blank w

  pub was_here : mark_at ms p ≡ m
  was_here = get_or_default ms p blank m h ∙ sym e

  module _ {A : Type 0} (f : Mark → A) where
    -- what is the same in both is so everywhere
    pub set_kept : f n ≡ f m → (q : ℕ) → f (mark_at (set ms p n) q) ≡ f (mark_at ms q)
    set_kept g q =
        elim (cases_eq q p) [
          | inl w ↦ ap (λ (x : ℕ). f (mark_at (set ms p n) x)) w ∙ ap f set_here ∙ g ∙ ap f (sym was_here) ∙ ap (λ (x : ℕ). f (mark_at ms x)) (sym w)
          | inr w ↦ ap f (set_there q w)
        ]

  -- a test that passes there now
  pub set_joined : (f : Mark → Bool) → f n ≡ true → (q : ℕ) → f (mark_at (set ms p n) q) ≡ (f (mark_at ms q) || eqb q p)
  set_joined f g q =
      elim (cases_eq q p) [
        | inl w ↦ ap (λ (x : ℕ). f (mark_at (set ms p n) x)) w ∙ ap f set_here ∙ g ∙ sym (ap (λ b. f (mark_at ms q) || b) (eq-eqb q p w) ∙ or_true (f (mark_at ms q)))
        | inr w ↦ ap f (set_there q w) ∙ sym (ap (λ b. f (mark_at ms q) || b) (ne_eqb q p w) ∙ or_no (f (mark_at ms q)))
      ]
    where
      or_true : (b : Bool) → (b || true) ≡ true
      or_true true = refl
      or_true false = refl

      or_no : (b : Bool) → (b || false) ≡ b
      or_no true = refl
      or_no false = refl

-- ---- states

-- a state from its parts
pub made : (ns : List BlockIndex) (ms : List Mark) (cs : List ℕ) {t : Blocks Block} {bad seen precious : List ℕ} → blocks_of ns ≡ t → places_where (λ m. m.bad) ms ≡ bad → places_where (λ m. m.seen) ms ≡ seen → reverse cs ≡ precious
    → state_of ns ms cs ≡ record { blocks = t; bad = bad; seen = seen; precious = precious }
unfolding state_of
made ns ms cs {t} {bad} {seen} {precious} a b c d =
    ap (parts_1 (places_where (λ m. m.bad) ms) (places_where (λ m. m.seen) ms) (reverse cs)) a
    ∙ ap (parts_2 t (places_where (λ m. m.seen) ms) (reverse cs)) b ∙ ap (parts_3 t bad (reverse cs)) c ∙ ap (parts_4 t bad seen) d
  where
    parts_1 : List ℕ → List ℕ → List ℕ → Blocks Block → State Block
    parts_1 x y z w = record { blocks = w; bad = x; seen = y; precious = z }

    parts_2 : Blocks Block → List ℕ → List ℕ → List ℕ → State Block
    parts_2 w y z x = record { blocks = w; bad = x; seen = y; precious = z }

    parts_3 : Blocks Block → List ℕ → List ℕ → List ℕ → State Block
    parts_3 w x z y = record { blocks = w; bad = x; seen = y; precious = z }

    parts_4 : Blocks Block → List ℕ → List ℕ → List ℕ → State Block
    parts_4 w x y z = record { blocks = w; bad = x; seen = y; precious = z }

-- branches are usable alike where their blocks are marked alike
pub usable_alike : (s t : State Block) (p : ℕ) → ◌≡◌ {A = Blocks Block} s.blocks t.blocks → ((x : ℕ) → on s.blocks p x ≡ true → has s.bad x ≡ has t.bad x) → has_no_mark s p ≡ has_no_mark t p
unfolding has_no_mark on
usable_alike s t p e f =
    all_agree (λ x. not (has s.bad x)) (λ x. not (has t.bad x)) (branch s.blocks p) (λ x h. ap not (f x h))
    ∙ ap (λ (l : List ℕ). Rattle.std.specs.List.list_all (λ x. not (has t.bad x)) l) (ap (λ (u : Blocks Block). branch u p) e)

-- neither the sights nor the calls matter
pub usable_bare : (ns : List BlockIndex) (ms : List Mark) (cs ds : List ℕ) (p : ℕ) → has_no_mark (state_of ns ms cs) p ≡ has_no_mark (state_of ns ms ds) p
unfolding has_no_mark state_of
usable_bare ns ms cs ds p = refl

module _ (ns : List BlockIndex) (ms ls : List Mark) (some : 0 < length ns) (same : length ms ≡ length ns) (also : length ls ≡ length ns) where
  kept : suc (length (blocks_of ns)) ≡ length ns
  kept = length-blocks ns some

  -- in two states in which a branch is marked alike
  pub usable_marked : (p : ℕ) → ((x : ℕ) → x ≤ p → x < length ns → (mark_at ls x).bad ≡ (mark_at ms x).bad) → has_no_mark (state_of ns ls []) p ≡ has_no_mark (state_of ns ms []) p
  usable_marked p f =
      usable_alike (state_of ns ls []) (state_of ns ms []) p (blocks_same ls ms) (λ x o.
      let k = kept in
      let b = on-bounds (state_of ns ls []).blocks p x o in
      let g = bound x b.1 in
      bad_is ls also x g ∙ f x b.0 g ∙ sym (bad_is ms same x g))
    where
      blocks_same : (xs ys : List Mark) → ◌≡◌ {A = Blocks Block} (state_of ns xs []).blocks (state_of ns ys []).blocks
      blocks_same xs ys = unfold state_of in refl

      bound : (x : ℕ) → x ≤ length (state_of ns ls []).blocks → x < length ns
      bound x l = let k = kept in let m : x ≤ length (blocks_of ns) = unfold state_of in l in omega arith

      bad_is : (xs : List Mark) → length xs ≡ length ns → (x : ℕ) → x < length ns → has (state_of ns xs []).bad x ≡ (mark_at xs x).bad
      bad_is xs l x g = unfold state_of in has-where (λ m. m.bad) xs x (omega arith)

  -- from the parent's
  pub usable_step : (p : ℕ) → 0 < p → p < length ns → has_no_mark (state_of ns ms []) p ≡ (not (mark_at ms p).bad && has_no_mark (state_of ns ms []) (parent_at (blocks_of ns) p))
  unfolding state_of
  usable_step p z h =
      let k = kept in
      usable-parent (state_of ns ms []) p z (omega arith)
      ∙ ap (λ b. not b && has_no_mark (state_of ns ms []) (parent_at (blocks_of ns) p)) (has-where (λ m. m.bad) ms p (omega arith))

-- genesis is usable where it isn't marked
pub usable_zero : (ns : List BlockIndex) (ms : List Mark) → 0 < length ms → (mark_at ms 0).bad ≡ false → has_no_mark (state_of ns ms []) 0 ≡ true
unfolding state_of
usable_zero ns ms h e = usable-genesis (state_of ns ms []) ∙ ap (λ b. not b && true) (has-where (λ m. m.bad) ms 0 h ∙ e)

-- ---- a right tree with other marks

module _ {ns : List BlockIndex} {ms : List Mark} {cs : List ℕ} {is : List (Id × ℕ)} {ls : List ℕ} (right : IsRight ns ms cs is ls) where
  pub right-usable : AreUsable (state_of ns ms []) ms (length ns)
  right-usable p h = (right.are_marks p h).usable ∙ usable_bare ns ms cs [] p

  pub right_from : (new : List Mark) (ds : List ℕ) → length new ≡ length ns → AreUsable (state_of ns new []) new (length ns) → ((p : ℕ) → p < length ns → (mark_at new p).rank ≡ rank_in (reverse ds) p)
      → (mark_at new 0).bad ≡ false → ((p : ℕ) → length ns ≤ p → has (reverse ds) p ≡ false) → IsRight ns new ds is ls
  unfolding rank state_of
  right_from new ds e u k g c = record {
    some = right.some;
    room = right.room;
    same = e;
    are_nodes = right.are_nodes;
    are_marks = λ p h. record { usable = u p h ∙ usable_bare ns new [] ds p; rank = k p h };
    genesis = g;
    are_calls = c;
    in_order = right.in_order;
    are_ids = right.are_ids;
    are_leaves = right.are_leaves;
  }

  pub right-rank : (p : ℕ) → p < length ns → (mark_at ms p).rank ≡ rank_in (reverse cs) p
  unfolding rank state_of
  right-rank p h = (right.are_marks p h).rank

-- ---- nodes

-- a node's parent comes before it
pub parent_before : (ns : List BlockIndex) (p : ℕ) (n : BlockIndex) → AreNodes (blocks_of ns) ns → 0 < p → p < length ns → n ≡ get_or ns p n → (n.parent ≡ parent_at (blocks_of ns) p) × (n.parent < p)
parent_before ns p n nodes z h e =
    let k = length-blocks ns (omega arith) in
    let q = (subst (IsNode (blocks_of ns) p) (sym e) (nodes p n h)).parent in
    let b = Rattle.tree.specs.laws.Parents.parent-below (blocks_of ns) p z (omega arith) in
    (q, omega arith)

pub branch_down : (ns : List BlockIndex) (p : ℕ) (n : BlockIndex) → AreNodes (blocks_of ns) ns → 0 < p → p < length ns → n ≡ get_or ns p n → ◌≡◌ {A = List ℕ} (branch (blocks_of ns) p) (p ∷ branch (blocks_of ns) n.parent)
branch_down ns p n nodes z h e =
    let k = length-blocks ns (omega arith) in
    Rattle.tree.specs.laws.Parents.branch-parent (blocks_of ns) p z (omega arith) ∙ ap (λ (q : ℕ). p ∷ branch (blocks_of ns) q) (sym (parent_before ns p n nodes z h e).0)

-- one step of a walk that keeps the places
pub walk_on : (ns : List BlockIndex) (items new : List ℕ) (p : ℕ) (n : BlockIndex) → AreNodes (blocks_of ns) ns → 0 < p → p < length ns → n ≡ get_or ns p n → ◌≡◌ {A = List ℕ} new (items ++ p ∷ [])
    → ◌≡◌ {A = List ℕ} (new ++ branch (blocks_of ns) n.parent) (items ++ branch (blocks_of ns) p)
walk_on ns items new p n nodes z h e g =
    ap (λ (l : List ℕ). l ++ branch (blocks_of ns) n.parent) g ∙ append_assoc items (p ∷ []) (branch (blocks_of ns) n.parent)
    ∙ ap (λ (l : List ℕ). items ++ l) (sym (branch_down ns p n nodes z h e))

-- ---- what is seen of it

module _ (ns : List BlockIndex) (ms : List Mark) (cs : List ℕ) {s : State Block} (view : state_of ns ms cs ≡ s) where
  pub blocks-view : ◌≡◌ {A = Blocks Block} (blocks_of ns) s.blocks
  unfolding state_of
  blocks-view = ap (λ (t : State Block). t.blocks) view

  pub bad-view : ◌≡◌ {A = List ℕ} (places_where (λ m. m.bad) ms) s.bad
  unfolding state_of
  bad-view = ap (λ (t : State Block). t.bad) view

  pub seen-view : ◌≡◌ {A = List ℕ} (places_where (λ m. m.seen) ms) s.seen
  unfolding state_of
  seen-view = ap (λ (t : State Block). t.seen) view

  pub precious-view : ◌≡◌ {A = List ℕ} (reverse cs) s.precious
  unfolding state_of
  precious-view = ap (λ (t : State Block). t.precious) view

-- a right tree whose marks of invalid blocks stay
pub right_flags : {ns : List BlockIndex} {ms : List Mark} {cs : List ℕ} {is : List (Id × ℕ)} {ls : List ℕ} (right : IsRight ns ms cs is ls) (new : List Mark) (ds : List ℕ) → length new ≡ length ns
    → ((p : ℕ) → (mark_at new p).bad ≡ (mark_at ms p).bad) → ((p : ℕ) → (mark_at new p).usable ≡ (mark_at ms p).usable)
    → ((p : ℕ) → p < length ns → (mark_at new p).rank ≡ rank_in (reverse ds) p) → ((p : ℕ) → length ns ≤ p → has (reverse ds) p ≡ false) → IsRight ns new ds is ls
right_flags {ns} {ms} right new ds e b u k c =
    right_from right new ds e
    (λ p h. u p ∙ right-usable right p h ∙ sym (usable_marked ns ms new right.some right.same e p (λ x l g. b x)))
    k (b 0 ∙ right.genesis) c

-- what a call leaves of a list that it was lent whole
pub whole : {A : Type 0} (new old : List A) (n : ℕ) → n ≡ length new → take n (new ++ drop (length new) old) ≡ new
whole new old n e = ap (λ k. take k (new ++ drop (length new) old)) e ∙ take-append_seam new (drop (length new) old)
