use Rattle.std.proofs.Common.{◌≡◌, ℕ, ◌-◌, ◌≤◌, Bool, ◌&&◌, eqb, ltb, List, length, reverse, get_or, sym, ap, ◌∙◌, arith}
use Rattle.hash.specs.declared.id.Id.{Id}
use Rattle.block.specs.declared.block.Block.{Block}
use Rattle.tree.specs.declared.tip.Status.{Status}
use Rattle.tree.specs.declared.tip.Tip.{Tip}
use Rattle.tree.specs.Branches.{Blocks, branch, on, height, parent_at}
use Rattle.tree.specs.Tips.{last_shared, tip}
use Rattle.tree.specs.laws.Parents.{parent-kept, parent-below, height-parent}
use Rattle.tree.specs.laws.Walks.{on_by_height, shared_here, shared_below, above_genesis}
use Rattle.tree.proofs.tips.tip_at.Goals as goal

-- what the test says
on_is : (t : Blocks Block) (a p h : ℕ) (active : List ℕ) (b : Bool) → b ≡ (ltb h (length active) && eqb (get_or active h 0) p) → active ≡ reverse (branch t a) → h ≡ height t p → a ≤ length t → on t a p ≡ b
on_is t a p h active b e f g k =
    sym (e ∙ ap (λ (l : List ℕ). ltb h (length l) && eqb (get_or l h 0) p) f
    ∙ ap (λ (i : ℕ). ltb i (length (reverse (branch t a))) && eqb (get_or (reverse (branch t a)) i 0) p) g ∙ on_by_height t a p k)

abbrev as_tip : Id → ℕ → ℕ → Status → Tip
as_tip i h l s = record { id = i; height = h; length = l; status = s }

same_tip : {i j : Id} {h k l m : ℕ} {r s : Status} → i ≡ j → h ≡ k → l ≡ m → r ≡ s → as_tip i h l r ≡ as_tip j k m s
same_tip {i} {j} {h} {k} {l} {m} {r} {s} a b c d =
    ap (λ (x : Id). as_tip x h l r) a ∙ ap (λ (x : ℕ). as_tip j x l r) b ∙ ap (λ (x : ℕ). as_tip j k x r) c ∙ ap (λ (x : Status). as_tip j k m x) d

pub returns-then-stands_at : goal.returns-then-stands_at
unfolding tip
returns-then-stands_at c =
    let t = c.args.tree.now.blocks in
    let a = c.args.best in
    let o = on_is t a c.down.shared c.height-height.result c.args.active.now c.stands_at.result c.stands_at.ensures c.requires.active c.height-height.ensures.value c.requires.best in
    let shared : c.down.shared ≡ last_shared t a c.args.place = sym (shared_here t a c.down.shared c.down.invariant.kept (o ∙ c.if-stands_at.true)) ∙ c.down.invariant.same in
    same_tip c.id.ensures c.height.ensures.value
    (ap (λ (x : ℕ). x - c.height-height.result) c.height-then-stands_at.ensures.value ∙ ap (λ (x : ℕ). height t c.args.place - x) (c.height-height.ensures.value ∙ ap (height t) shared))
    c.status_of.ensures

pub down-smaller : goal.down-smaller
down-smaller c =
    let t = c.args.tree.now.blocks in
    let a = c.args.best in
    let o = on_is t a c.down.shared c.height-height.result c.args.active.now c.stands_at.result c.stands_at.ensures c.requires.active c.height-height.ensures.value c.requires.best in
    let z = above_genesis t a c.down.shared (o ∙ c.if-stands_at.false) in
    let b = parent-below t c.down.shared z c.down.invariant.kept in
    let e = c.parent-shared.ensures in
    omega arith

pub down-preserved : goal.down-preserved
down-preserved c =
    let t = c.args.tree.now.blocks in
    let a = c.args.best in
    let k = c.down.invariant.kept in
    let off = on_is t a c.down.shared c.height-height.result c.args.active.now c.stands_at.result c.stands_at.ensures c.requires.active c.height-height.ensures.value c.requires.best ∙ c.if-stands_at.false in
    let z = above_genesis t a c.down.shared off in
    let e = c.parent-shared.ensures in
    let up = parent-kept t c.down.shared z k in
    let h = height-parent t c.down.shared z k in
    let w : height t c.parent-shared.result ≡ height t (parent_at t c.down.shared) = ap (height t) e in
    let l = c.down.invariant.low in
    record {
      kept = omega arith;
      same = ap (last_shared t a) e ∙ sym (shared_below t a c.down.shared z k off) ∙ c.down.invariant.same;
      low = omega arith;
    }
