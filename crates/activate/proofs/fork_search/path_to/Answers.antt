use Rattle.std.proofs.Common.{◌≡◌, ℕ, ◌<◌, ◌≤◌, Bool, true, false, ◌&&◌, eqb, ltb, List, [], ◌∷◌, ◌++◌, length, reverse, get_or, sym, ap, ◌∙◌, subst, inl, inr, append_assoc, arith}
use Rattle.std.proofs.lemmas.List.{append-nil}
use Rattle.std.proofs.lemmas.Bool.{cases_eq}
use Rattle.block.specs.declared.block.Block.{Block}
use Rattle.tree.specs.Branches.{Blocks, branch, on, height, parent_at}
use Rattle.tree.specs.Tips.{last_shared}
use Rattle.tree.specs.laws.Above.{above, above-end, above-step, IsShared, last-shared}
use Rattle.tree.specs.laws.Branches.{on-bounds}
use Rattle.tree.specs.laws.Sets.{clash}
use Rattle.tree.specs.laws.Parents.{parent-kept, parent-below}
use Rattle.tree.specs.laws.Walks.{on_by_height, shared_here, shared_below, above_genesis}
use Rattle.activate.proofs.fork_search.path_to.Goals as goal

-- what the test says
on_is : (t : Blocks Block) (a p h : ℕ) (active : List ℕ) (b : Bool) → b ≡ (ltb h (length active) && eqb (get_or active h 0) p) → active ≡ reverse (branch t a) → h ≡ height t p → a ≤ length t → on t a p ≡ b
on_is t a p h active b e f g k =
    sym (e ∙ ap (λ (l : List ℕ). ltb h (length l) && eqb (get_or l h 0) p) f
    ∙ ap (λ (i : ℕ). ltb i (length (reverse (branch t a))) && eqb (get_or (reverse (branch t a)) i 0) p) g ∙ on_by_height t a p k)

-- at the last shared block nothing is left of the path
module _ (t : Blocks Block) (a p x h : ℕ) (up : List ℕ) (kept : x ≤ length t) (place : p ≤ length t) (o : on t a x ≡ true) (same : last_shared t a x ≡ last_shared t a p)
    (so_far : up ++ above t x (last_shared t a x) ≡ above t p (last_shared t a p)) where
  fork : last_shared t a p ≡ x
  fork = sym same ∙ shared_here t a x kept o

  is_shared : IsShared t a p x
  is_shared = subst (λ (f : ℕ). IsShared t a p f) fork (last-shared t a p place)

  whole : ◌≡◌ {A = List ℕ} up (above t p x)
  whole =
      sym (append-nil up) ∙ ap (λ (l : List ℕ). up ++ l) (sym (above-end t x kept) ∙ ap (above t x) (sym (shared_here t a x kept o)))
      ∙ so_far ∙ ap (above t p) fork

pub returns-then-stands_at-clause-path : goal.returns-then-stands_at-clause-path
returns-then-stands_at-clause-path c =
    let t = c.args.active_branch.now.tree.now.blocks in
    let a = c.args.active_branch.now.active in
    let x = c.down.next in
    let i = c.down.invariant in
    let o = on_is t a x c.height-height.result c.args.active_branch.now.branch.now c.stands_at.result c.stands_at.ensures c.requires.branch c.height-height.ensures.value c.requires.active ∙ c.if-stands_at.true in
    record {
      shared = is_shared t a c.args.place x 0 c.down.up.items i.kept c.requires.place o i.same i.up;
      high = c.height-height.ensures.value;
      up = whole t a c.args.place x 0 c.down.up.items i.kept c.requires.place o i.same i.up;
    }

-- one block more of the path
module _ (t : Blocks Block) (a x next : ℕ) (kept : x ≤ length t) (z : 0 < x) (off : on t a x ≡ false) (is : next ≡ parent_at t x) where
  above_fork : last_shared t a x < x
  above_fork =
      let s = last-shared t a x kept in
      let b = (on-bounds t x (last_shared t a x) s.there).0 in
      elim (cases_eq (last_shared t a x) x) [
        | inl e ↦ absurd (clash (on t a x) (subst (λ (f : ℕ). on t a f ≡ true) e s.here) off)
        | inr n ↦ omega arith
      ]

  longer : (up : List ℕ) → ◌≡◌ {A = List ℕ} ((up ++ x ∷ []) ++ above t next (last_shared t a next)) (up ++ above t x (last_shared t a x))
  longer up =
      append_assoc up (x ∷ []) (above t next (last_shared t a next))
      ∙ ap (λ (q : ℕ). up ++ (x ∷ above t q (last_shared t a q))) is
      ∙ ap (λ (f : ℕ). up ++ (x ∷ above t (parent_at t x) f)) (sym (shared_below t a x z kept off))
      ∙ ap (λ (l : List ℕ). up ++ l) (sym (above-step t x (last_shared t a x) above_fork kept))

pub down-smaller : goal.down-smaller
down-smaller c =
    let t = c.args.active_branch.now.tree.now.blocks in
    let a = c.args.active_branch.now.active in
    let o = on_is t a c.down.next c.height-height.result c.args.active_branch.now.branch.now c.stands_at.result c.stands_at.ensures c.requires.branch c.height-height.ensures.value c.requires.active in
    let z = above_genesis t a c.down.next (o ∙ c.if-stands_at.false) in
    let b = parent-below t c.down.next z c.down.invariant.kept in
    let e = c.parent-next.ensures in
    omega arith

pub down-preserved : goal.down-preserved
down-preserved c =
    let t = c.args.active_branch.now.tree.now.blocks in
    let a = c.args.active_branch.now.active in
    let x = c.down.next in
    let i = c.down.invariant in
    let off = on_is t a x c.height-height.result c.args.active_branch.now.branch.now c.stands_at.result c.stands_at.ensures c.requires.branch c.height-height.ensures.value c.requires.active ∙ c.if-stands_at.false in
    let z = above_genesis t a x off in
    let e = c.parent-next.ensures in
    let up = parent-kept t x z i.kept in
    let below = shared_below t a x z i.kept off in
    record {
      kept = omega arith;
      same = ap (last_shared t a) e ∙ sym below ∙ i.same;
      up = ap (λ (l : List ℕ). l ++ above t c.parent-next.result (last_shared t a c.parent-next.result)) c.in_ok-push.ensures.items ∙ longer t a x c.parent-next.result i.kept z off e c.down.up.items ∙ i.up;
    }
