-- Which blocks are cleared, and what is left of the marks.
use Rattle.std.proofs.Common.{◌≡◌, ℕ, ◌-◌, ◌<◌, Bool, true, false, cond, ◌&&◌, ◌||◌, eqb, ltb, List, [], ◌∷◌, ◌++◌, length, get_or, sym, refl, ap, ◌∙◌, subst, inl, inr, arith}
use Rattle.std.proofs.Math.ListN.{set, get_or-append}
use Rattle.std.proofs.Math.Seq.{get_or-append_seam}
use Rattle.std.proofs.lemmas.Bool.{cases_eq, eq-eqb, ne_eqb, lt-ltb}
use Rattle.std.proofs.lemmas.List.{get_or-set_same, get_or-set_other}
use Rattle.std.specs.List.{filter}
use Rattle.block.specs.declared.block.Block.{Block}
use Rattle.tree.specs.declared.block_index.BlockIndex.{BlockIndex}
use Rattle.tree.specs.declared.block_index.Mark.{Mark}
use Rattle.tree.specs.Branches.{Blocks, has, on, down_from}
use Rattle.tree.specs.Nodes.{blocks_of, mark_at, places_where}
use Rattle.tree.specs.inside.Nodes.{AreNodes}
use Rattle.tree.specs.laws.Sets.{filter_agree}
use Rattle.tree.specs.laws.Branches.{branch-genesis}
use Rattle.tree.proofs.Changes.{branch_down}

-- only genesis is on its branch
on_zero : (t : Blocks Block) (x : ℕ) → on t 0 x ≡ (eqb 0 x || false)
unfolding on
on_zero t x = ap (λ (l : List ℕ). has l x) (branch-genesis t)

on_down : (ns : List BlockIndex) (p : ℕ) (n : BlockIndex) (x : ℕ) → AreNodes (blocks_of ns) ns → 0 < p → p < length ns → n ≡ get_or ns p n → on (blocks_of ns) p x ≡ (eqb p x || on (blocks_of ns) n.parent x)
unfolding on
on_down ns p n x nodes z h e = ap (λ (l : List ℕ). has l x) (branch_down ns p n nodes z h e)

-- a block stands on another where it is that one, or its parent stands on it
pub stands : (ns : List BlockIndex) (p : ℕ) (n : BlockIndex) (place : ℕ) (b : Bool) → AreNodes (blocks_of ns) ns → p < length ns → n ≡ get_or ns p n → (0 < p → b ≡ on (blocks_of ns) n.parent place) → (eqb p place || (ltb 0 p && b)) ≡ on (blocks_of ns) p place
stands ns p n place b nodes h e f =
    elim (cases_eq 0 p) [
      | inl z ↦ subst (λ (q : ℕ). (eqb q place || (ltb 0 q && b)) ≡ on (blocks_of ns) q place) z (sym (on_zero (blocks_of ns) place))
      | inr z ↦
          ap (λ (v : Bool). eqb p place || (v && b)) (lt-ltb 0 p (omega arith)) ∙ ap (λ (v : Bool). eqb p place || v) (f (omega arith))
          ∙ sym (on_down ns p n place nodes (omega arith) h e)
    ]

-- a flag set
pub flag_set : (flags : List Bool) (p x : ℕ) → p < length flags → get_or (set flags p true) x false ≡ (eqb p x || get_or flags x false)
flag_set flags p x h =
    elim (cases_eq x p) [
      | inl e ↦ ap (λ (q : ℕ). get_or (set flags p true) q false) e ∙ get_or-set_same flags p true false h ∙ sym (ap (λ (v : Bool). v || get_or flags x false) (eq-eqb p x (sym e)))
      | inr e ↦ get_or-set_other flags p x true false e ∙ sym (ap (λ (v : Bool). v || get_or flags x false) (ne_eqb p x (λ q. e (sym q))))
    ]

-- a flag pushed
pub flag_push : (flags : List Bool) (b : Bool) (n x : ℕ) → length flags ≡ n → x < n → get_or (flags ++ b ∷ []) x false ≡ get_or flags x false
flag_push flags b n x e h = get_or-append flags (b ∷ []) false x (omega arith)

pub flag_last : (flags : List Bool) (b : Bool) (n : ℕ) → length flags ≡ n → get_or (flags ++ b ∷ []) n false ≡ b
flag_last flags b n e = ap (λ (k : ℕ). get_or (flags ++ b ∷ []) k false) (sym e) ∙ get_or-append_seam flags b [] false

or_three : (a b c : Bool) → (a || (b || c)) ≡ ((b || a) || c)
or_three true true c = refl
or_three true false c = refl
or_three false true c = refl
or_three false false c = refl

or_none : (a b : Bool) → (a || b) ≡ ((a || false) || b)
or_none true b = refl
or_none false b = refl

-- a walk down that sets flags
pub up_end : (ns : List BlockIndex) (flags : List Bool) (p x : ℕ) (all : Bool) → p ≡ 0 → p < length flags → (on (blocks_of ns) p x || get_or flags x false) ≡ all → get_or (set flags p true) x false ≡ all
up_end ns flags p x all z h e =
    flag_set flags p x h ∙ or_none (eqb p x) (get_or flags x false)
    ∙ ap (λ (v : Bool). v || get_or flags x false) (ap (λ (q : ℕ). eqb q x || false) z ∙ sym (on_zero (blocks_of ns) x) ∙ ap (λ (q : ℕ). on (blocks_of ns) q x) (sym z)) ∙ e

pub up_on : (ns : List BlockIndex) (flags : List Bool) (p : ℕ) (n : BlockIndex) (x : ℕ) (all : Bool) → AreNodes (blocks_of ns) ns → 0 < p → p < length ns → p < length flags → n ≡ get_or ns p n → (on (blocks_of ns) p x || get_or flags x false) ≡ all
    → (on (blocks_of ns) n.parent x || get_or (set flags p true) x false) ≡ all
up_on ns flags p n x all nodes z h l e f =
    ap (λ (v : Bool). on (blocks_of ns) n.parent x || v) (flag_set flags p x l)
    ∙ or_three (on (blocks_of ns) n.parent x) (eqb p x) (get_or flags x false)
    ∙ ap (λ (v : Bool). v || get_or flags x false) (sym (on_down ns p n x nodes z h e)) ∙ f

-- ---- the marks that are left

filter_twice : (f g : ℕ → Bool) (l : List ℕ) → filter f (filter g l) ≡ filter (λ x. g x && f x) l
filter_twice f g [] = refl
filter_twice f g (x ∷ l) =
    elim (g x) as (λ b. filter f (cond b (x ∷ filter g l) (filter g l)) ≡ cond (b && f x) (x ∷ filter (λ y. g y && f y) l) (filter (λ y. g y && f y) l)) [
      | true ↦ ap (λ (r : List ℕ). cond (f x) (x ∷ r) r) (filter_twice f g l)
      | false ↦ filter_twice f g l
    ]

pub where_cleared : (f : ℕ → Bool) (ms ls : List Mark) → length ls ≡ length ms → 0 < length ms → ((p : ℕ) → p < length ms → (mark_at ls p).bad ≡ ((mark_at ms p).bad && f p)) → places_where (λ m. m.bad) ls ≡ filter f (places_where (λ m. m.bad) ms)
unfolding places_where
where_cleared f ms ls e z h =
    ap (λ (n : ℕ). filter (λ q. (mark_at ls q).bad) (down_from (n - 1))) e
    ∙ filter_agree (λ q. (mark_at ls q).bad) (λ q. (mark_at ms q).bad && f q) (length ms - 1) (λ q l. h q (omega arith))
    ∙ sym (filter_twice f (λ q. (mark_at ms q).bad) (down_from (length ms - 1)))
