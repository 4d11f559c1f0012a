-- The times along a branch.
use Rattle.std.proofs.Common.{◌≡◌, ℕ, zero, suc, ◌+◌, ◌<◌, ◌≤◌, List, [], ◌∷◌, ◌++◌, length, map, take, get_or, sym, refl, ap, ◌∙◌, subst, arith}
use Rattle.std.proofs.Math.ListN.{set}
use Rattle.std.proofs.lemmas.List.{append_assoc, take-append-le}
use Rattle.block.specs.declared.block.Block.{Block}
use Rattle.tree.specs.declared.block_index.BlockIndex.{BlockIndex}
use Rattle.tree.specs.Branches.{Blocks, branch, block_at, blocks_at}
use Rattle.tree.specs.MedianTime.{time_of}
use Rattle.tree.specs.Names.{names}
use Rattle.tree.specs.Nodes.{blocks_of}
use Rattle.tree.specs.inside.Nodes.{AreNodes, IsNode}
use Rattle.tree.specs.laws.Branches.{branch-genesis}
use Rattle.tree.proofs.Changes.{branch_down}

-- from the block at p down
abbrev pub times_on : Blocks Block → ℕ → List ℕ
times_on t p = map time_of (blocks_at names t (branch t p))

time_is : (ns : List BlockIndex) (p : ℕ) (n : BlockIndex) → AreNodes (blocks_of ns) ns → p < length ns → n ≡ get_or ns p n → time_of n.block ≡ time_of (block_at names (blocks_of ns) p)
time_is ns p n nodes h e = ap time_of (subst (IsNode (blocks_of ns) p) (sym e) (nodes p n h)).block

pub times_down : (ns : List BlockIndex) (p : ℕ) (n : BlockIndex) → AreNodes (blocks_of ns) ns → 0 < p → p < length ns → n ≡ get_or ns p n → ◌≡◌ {A = List ℕ} (times_on (blocks_of ns) p) (time_of n.block ∷ times_on (blocks_of ns) n.parent)
times_down ns p n nodes z h e =
    ap (λ (l : List ℕ). map time_of (blocks_at names (blocks_of ns) l)) (branch_down ns p n nodes z h e)
    ∙ ap (λ (x : ℕ). x ∷ times_on (blocks_of ns) n.parent) (sym (time_is ns p n nodes h e))

pub times_end : (ns : List BlockIndex) (p : ℕ) (n : BlockIndex) → AreNodes (blocks_of ns) ns → p ≡ 0 → p < length ns → n ≡ get_or ns p n → ◌≡◌ {A = List ℕ} (times_on (blocks_of ns) p) (time_of n.block ∷ [])
times_end ns p n nodes z h e =
    ap (λ (l : List ℕ). map time_of (blocks_at names (blocks_of ns) l)) (ap (branch (blocks_of ns)) z ∙ branch-genesis (blocks_of ns))
    ∙ ap (λ (x : ℕ). x ∷ []) (ap (λ (q : ℕ). time_of (block_at names (blocks_of ns) q)) (sym z) ∙ sym (time_is ns p n nodes h e))

take-set : (l : List ℕ) (i x : ℕ) → i < length l → take (suc i) (set l i x) ≡ take i l ++ x ∷ []
take-set [] i x h = absurd (omega arith)
take-set (y ∷ l) zero x h = refl
take-set (y ∷ l) (suc i) x h = ap (λ r. y ∷ r) (take-set l i x (omega arith))

-- one time more
pub put_next : (times rest all : List ℕ) (i x : ℕ) → i < length times → take i times ++ (x ∷ rest) ≡ all → take (i + 1) (set times i x) ++ rest ≡ all
put_next times rest all i x h e =
    ap (λ k. take k (set times i x) ++ rest) (next i) ∙ ap (λ (l : List ℕ). l ++ rest) (take-set times i x h) ∙ append_assoc (take i times) (x ∷ []) rest ∙ e
  where
    next : (k : ℕ) → k + 1 ≡ suc k
    next k = omega arith

-- where the rest is empty, or the first ones are eleven
pub all_of : (n : ℕ) (l : List ℕ) → length l ≤ n → take n l ≡ l
all_of zero [] h = refl
all_of (suc n) [] h = refl
all_of zero (x ∷ l) h = absurd (omega arith)
all_of (suc n) (x ∷ l) h = ap (λ r. x ∷ r) (all_of n l (omega arith))

pub first_of_all : (l rest all : List ℕ) → length l ≡ 11 → take 11 l ++ rest ≡ all → l ≡ take 11 all
first_of_all l rest all h e =
    sym (all_of 11 l (omega arith)) ∙ sym (take-append-le 11 l rest (omega arith)) ∙ ap (λ (k : List ℕ). take 11 (k ++ rest)) (sym (all_of 11 l (omega arith))) ∙ ap (take 11) e

take_short : (k : ℕ) (l : List ℕ) → length (take k l) ≤ length l
take_short zero l = omega arith
take_short (suc k) [] = omega arith
take_short (suc k) (x ∷ l) = let h = take_short k l in omega arith

append_none : (l : List ℕ) → l ++ [] ≡ l
append_none [] = refl
append_none (x ∷ l) = ap (λ r. x ∷ r) (append_none l)

-- where nothing is left
pub all_put : (times all : List ℕ) (i x : ℕ) → i < length times → length times ≡ 11 → take i times ++ (x ∷ []) ≡ all → take (i + 1) (set times i x) ≡ take 11 all
all_put times all i x h l e =
    let got : take (i + 1) (set times i x) ≡ all = sym (append_none (take (i + 1) (set times i x))) ∙ put_next times [] all i x h e in
    let s = take_short (i + 1) (set times i x) in
    let w = Rattle.std.proofs.lemmas.List.length-set times i x in
    sym (all_of 11 (take (i + 1) (set times i x)) (omega arith)) ∙ ap (take 11) got
