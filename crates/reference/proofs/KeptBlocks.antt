-- The blocks that are held, as the blocks that the definitions speak of, and walks along a branch.
use Rattle.std.proofs.Common.{◌≡◌, ℕ, zero, suc, ◌+◌, ◌<◌, ◌≤◌, Bool, cond, List, [], ◌∷◌, ◌++◌, length, map, reverse, get_or, Option, Some, None, sym, refl, ap, ◌∙◌, subst, inl, inr, arith, append_assoc}
use Rattle.std.proofs.lemmas.Bool.{cases_eq}
use Rattle.std.proofs.lemmas.List.{length-reverse, length-map, reverse-append, map-append}
use Rattle.hash.specs.declared.id.Id.{Id}
use Rattle.block.specs.declared.block.Block.{Block}
use Rattle.tree.specs.Branches.{Blocks, branch, height, parent_at, block_at, id_at, blocks_at, place_of}
use Rattle.tree.specs.Names.{names}
use Rattle.tree.specs.laws.Branches.{branch_head, branch-genesis}
use Rattle.tree.specs.laws.Parents.{parent-below, branch-parent}
use Rattle.tree.specs.laws.AddedBlock.{id_there, id_here}
use Rattle.reference.specs.declared.kept_block.KeptBlock.{KeptBlock}
use Rattle.reference.specs.inside.Replay.{kept_of, blocks_of, IsKeptBlock, AreKeptBlocks, block_in, blocks_in, first_kept}

pub length-blocks : (hs : List KeptBlock) → 0 < length hs → suc (length (blocks_of hs)) ≡ length hs
unfolding blocks_of
length-blocks [] h = absurd (omega arith)
length-blocks (n ∷ hs) h = ap suc (length-reverse (map kept_of hs) ∙ length-map hs kept_of)

-- a block that is pushed is the newest one
pub blocks-push : (hs : List KeptBlock) (n : KeptBlock) → 0 < length hs → ◌≡◌ {A = Blocks Block} (blocks_of (hs ++ n ∷ [])) (kept_of n ∷ blocks_of hs)
unfolding blocks_of
blocks-push [] n h = absurd (omega arith)
blocks-push (m ∷ hs) n h = ap reverse (map-append kept_of hs (n ∷ [])) ∙ reverse-append (map kept_of hs) (kept_of n ∷ [])

-- ---- walks

-- a block's parent comes before it
pub parent_before : (hs : List KeptBlock) (p : ℕ) (n : KeptBlock) → AreKeptBlocks (blocks_of hs) hs → 0 < p → p < length hs → n ≡ get_or hs p n → (n.parent ≡ parent_at (blocks_of hs) p) × (n.parent < p)
parent_before hs p n held z h e =
    let k = length-blocks hs (omega arith) in
    let q = (subst (IsKeptBlock (blocks_of hs) p) (sym e) (held p n h)).parent in
    let b = parent-below (blocks_of hs) p z (omega arith) in
    (q, omega arith)

pub branch_down : (hs : List KeptBlock) (p : ℕ) (n : KeptBlock) → AreKeptBlocks (blocks_of hs) hs → 0 < p → p < length hs → n ≡ get_or hs p n → ◌≡◌ {A = List ℕ} (branch (blocks_of hs) p) (p ∷ branch (blocks_of hs) n.parent)
branch_down hs p n held z h e =
    let k = length-blocks hs (omega arith) in
    branch-parent (blocks_of hs) p z (omega arith) ∙ ap (λ (q : ℕ). p ∷ branch (blocks_of hs) q) (sym (parent_before hs p n held z h e).0)

-- one step of a walk that keeps the places
pub walk_on : (hs : List KeptBlock) (items new : List ℕ) (p : ℕ) (n : KeptBlock) → AreKeptBlocks (blocks_of hs) hs → 0 < p → p < length hs → n ≡ get_or hs p n → ◌≡◌ {A = List ℕ} new (items ++ p ∷ [])
    → ◌≡◌ {A = List ℕ} (new ++ branch (blocks_of hs) n.parent) (items ++ branch (blocks_of hs) p)
walk_on hs items new p n held z h e g =
    ap (λ (l : List ℕ). l ++ branch (blocks_of hs) n.parent) g ∙ append_assoc items (p ∷ []) (branch (blocks_of hs) n.parent)
    ∙ ap (λ (l : List ℕ). items ++ l) (sym (branch_down hs p n held z h e))

-- ---- the places of a branch

-- each is kept, and all but the last come after genesis
abbrev IsPlace : Blocks Block → List ℕ → ℕ → Type 0
IsPlace t places i = (get_or places i 0 ≤ length t) × (i + 1 < length places → 0 < get_or places i 0)

places_zero : (t : Blocks Block) (p i : ℕ) → 0 ≡ p → i < length (branch t p) → IsPlace t (branch t p) i
places_zero t p i z l =
    let e : ◌≡◌ {A = List ℕ} (branch t p) (0 ∷ []) = ap (branch t) (sym z) ∙ branch-genesis t in
    let short = ap (λ (k : List ℕ). length k) e in
    let first : i ≡ 0 = omega arith in
    let w : get_or (branch t p) i 0 ≡ 0 = ap (λ (k : List ℕ). get_or k i 0) e ∙ ap (λ (j : ℕ). get_or (0 ∷ []) j 0) first in
    (omega arith, λ more. absurd (omega arith))

places_step : (t : Blocks Block) (p q i : ℕ) → 0 < p → p ≤ length t → ◌≡◌ {A = List ℕ} (branch t p) (p ∷ branch t q) → ((j : ℕ) → j < length (branch t q) → IsPlace t (branch t q) j) → i < length (branch t p) → IsPlace t (branch t p) i
places_step t p q zero z h e below l =
    let w : get_or (branch t p) 0 0 ≡ p = ap (λ (k : List ℕ). get_or k 0 0) e in
    (omega arith, λ more. omega arith)
places_step t p q (suc i) z h e below l =
    let long : length (branch t p) ≡ suc (length (branch t q)) = ap (λ (k : List ℕ). length k) e in
    let w : get_or (branch t p) (suc i) 0 ≡ get_or (branch t q) i 0 = ap (λ (k : List ℕ). get_or k (suc i) 0) e in
    let r = below i (omega arith) in
    let g = r.0 in
    (omega arith, λ more. let f = r.1 (omega arith) in omega arith)

branch_places : (n : ℕ) (t : Blocks Block) (p i : ℕ) → p ≤ n → p ≤ length t → i < length (branch t p) → IsPlace t (branch t p) i
branch_places zero t p i m h l = places_zero t p i (omega arith) l
branch_places (suc n) t p i m h l =
    elim (cases_eq 0 p) [
      | inl z ↦ places_zero t p i z l
      | inr z ↦
          let b = parent-below t p (omega arith) h in
          places_step t p (parent_at t p) i (omega arith) h (branch-parent t p (omega arith) h) (λ j k. branch_places n t (parent_at t p) j (omega arith) (omega arith) k) l
    ]

module _ (t : Blocks Block) (p : ℕ) (h : p ≤ length t) where
  pub branch_kept : (i : ℕ) → i < length (branch t p) → get_or (branch t p) i 0 ≤ length t
  branch_kept i l = (branch_places p t p i (omega arith) h l).0

  pub branch_later : (i : ℕ) → i + 1 < length (branch t p) → 0 < get_or (branch t p) i 0
  branch_later i l = (branch_places p t p i (omega arith) h (omega arith)).1 l

  -- a branch is as long as its block is high, and one more
  pub branch_length : length (branch t p) ≡ suc (height t p)
  unfolding height
  branch_length = ap (λ (k : List ℕ). length k) (branch_head t p h)

-- ---- the blocks at places

map_at : {A : Type 0} (f g : ℕ → A) (l : List ℕ) → ((i : ℕ) → i < length l → f (get_or l i 0) ≡ g (get_or l i 0)) → map f l ≡ map g l
map_at f g [] h = refl
map_at f g (x ∷ l) h = ap (λ v. v ∷ map f l) (h 0 (omega arith)) ∙ ap (λ v. g x ∷ v) (map_at f g l (λ i k. h (suc i) (omega arith)))

module _ (hs : List KeptBlock) (held : AreKeptBlocks (blocks_of hs) hs) where
  pub block-held : (p : ℕ) → p < length hs → block_in hs p ≡ block_at names (blocks_of hs) p
  block-held p h = (held p first_kept h).block

  pub blocks-held : (places : List ℕ) → ((i : ℕ) → i < length places → get_or places i 0 < length hs) → ◌≡◌ {A = List Block} (blocks_in hs places) (blocks_at names (blocks_of hs) places)
  blocks-held places h = map_at (block_in hs) (block_at names (blocks_of hs)) places (λ i l. block-held (get_or places i 0) (h i l))

-- ---- the place of an id

-- the last of the first n places that passes
abbrev pub last_below : (ℕ → Bool) → ℕ → Option ℕ
last_below f zero = None
last_below f (suc n) = cond (f n) (Some n) (last_below f n)

last-agree : (f g : ℕ → Bool) (n : ℕ) → ((p : ℕ) → p < n → f p ≡ g p) → last_below f n ≡ last_below g n
last-agree f g zero h = refl
last-agree f g (suc n) h = ap (λ b. cond b (Some n) (last_below f n)) (h n (omega arith)) ∙ ap (λ o. cond (g n) (Some n) o) (last-agree f g n (λ p l. h p (omega arith)))

pub place-last : (t : Blocks Block) (i : Id) → place_of names t i ≡ last_below (λ p. names.same_id (id_at names t p) i) (suc (length t))
unfolding place_of id_at
place-last [] i = refl
place-last (k ∷ older) i =
    ap (λ b. cond b (Some (suc (length older))) (place_of names older i)) (ap (λ (j : Id). names.same_id j i) (sym (id_here names k older)))
    ∙ ap (λ o. cond (names.same_id (id_at names (k ∷ older) (suc (length older))) i) (Some (suc (length older))) o)
    (place-last older i ∙ last-agree (λ p. names.same_id (id_at names older p) i) (λ p. names.same_id (id_at names (k ∷ older) p) i) (suc (length older)) (λ p l. ap (λ (j : Id). names.same_id j i) (sym (id_there names k older p (omega arith)))))

pub last_more : (f : ℕ → Bool) (n : ℕ) (b : Bool) → f n ≡ b → last_below f (n + 1) ≡ cond b (Some n) (last_below f n)
last_more f n b e = ap (last_below f) (next n) ∙ ap (λ v. cond v (Some n) (last_below f n)) e
  where
    next : (k : ℕ) → k + 1 ≡ suc k
    next k = omega arith
