use Rattle.std.proofs.Common.{◌≡◌, ◌+◌, ◌-◌, ◌<◌, ◌≤◌, true, ℕ, suc, List, length, reverse, refl, sym, ap, subst, ◌∙◌, arith}
use Rattle.block.specs.declared.block.Block.{Block}
use Rattle.coins.specs.declared.coin.Coin.{Coin}
use Rattle.coins.specs.Coins.{Coins}
use Rattle.tree.specs.Branches.{Blocks, branch, on, height}
use Rattle.tree.specs.laws.Branches.{on-bounds, on-itself}
use Rattle.activate.specs.CoreState.{coins_after}
use Rattle.activate.specs.inside.Kept.{highest_undo}
use Rattle.activate.specs.inside.Paths.{AreConnected, IsActiveBranch}
use Rattle.activate.specs.declared.path.ActiveBranch.{ActiveBranch}
use Rattle.activate.specs.inside.Disconnection.{place_at, CanDisconnect, IsConnectedBranch, IsUndoAbove}
use Rattle.activate.specs.laws.ByHeight.{connected-branch, undo-above, place-of, places-long}
use Rattle.activate.proofs.Cores.{packed-long}
use Rattle.activate.proofs.disconnection.disconnect_to_fork.Goals as goal

-- where the active block and the fork stand, and that each block down to the fork can be taken back
record Stands (t : Blocks Block) (places : List ℕ) (undo packed : List (List (List Coin))) (a f : ℕ) : Type 0 where
  pub can : CanDisconnect t places undo packed
  pub long : length places ≡ suc (height t a)
  pub low : height t f ≤ height t a
  pub top : place_at places (height t a) ≡ a
  pub here : place_at places (height t f) ≡ f

stands : (b : ActiveBranch) (f : ℕ) {coins : Coins} → IsActiveBranch b coins → on b.tree.now.blocks b.active f ≡ true → AreConnected b.tree.now.blocks b.active
    → Stands b.tree.now.blocks b.branch.now b.undo.now.items b.packed.now b.active f
stands b f is o connected =
    let t = b.tree.now.blocks in
    let a = b.active in
    let undo = b.undo.now.items in
    let packed = b.packed.now in
    let places = b.branch.now in
    let k = is.kept in
    let p = is.branch.places_are in
    let few = is.branch.undo_above in
    let fork = place-of t a k f o in
    let active = place-of t a k a (on-itself t a k) in
    let size : length packed ≡ height t a = packed-long t a k _ _ _ _ is.branch in
    let long : length places ≡ suc (height t a) = ap (λ (l : List ℕ). length l) p ∙ places-long t a k in
    record {
      can = record {
        branch = subst (λ (l : List ℕ). IsConnectedBranch t l) (sym p) (connected-branch t a k connected);
        long = omega arith;
        few = omega arith;
        highest = subst (λ (l : List ℕ). IsUndoAbove t l (length packed - length undo) undo) (sym p) (subst (λ j. IsUndoAbove t (reverse (branch t a)) j undo) {x = height t a - length undo} {y = length packed - length undo} (omega arith) (undo-above t a k undo is.branch.undo_is few));
        all = subst (λ (l : List ℕ). IsUndoAbove t l 0 packed) (sym p) (subst (λ j. IsUndoAbove t (reverse (branch t a)) j packed) {x = height t a - length packed} {y = 0} (omega arith) (undo-above t a k packed (is.branch.packed_is ∙ ap (highest_undo t a) (sym size)) (omega arith)));
      };
      long = long;
      low = fork.0;
      top = ap (λ (l : List ℕ). place_at l (height t a)) p ∙ active.1;
      here = ap (λ (l : List ℕ). place_at l (height t f)) p ∙ fork.1;
    }

pub height-low-requires : goal.height-low-requires
height-low-requires g c = (on-bounds c.args.active_branch.now.tree.now.blocks c.args.active_branch.now.active c.args.fork c.requires.on).1

pub overflow_sub-done-end : goal.overflow_sub-done-end
overflow_sub-done-end g c =
    let s = stands c.args.active_branch.now c.args.fork c.requires.active c.requires.on c.requires.connected in
    omega (arith, s.low, c.height-low.ensures.value, c.height-top.ensures.value)

pub loop-done-init : goal.loop-done-init
loop-done-init g c =
    let t = c.args.active_branch.now.tree.now.blocks in
    let s = stands c.args.active_branch.now c.args.fork c.requires.active c.requires.on c.requires.connected in
    record {
      base = refl;
      coins = c.requires.active.coins_are ∙ ap (coins_after t) (sym s.top)
          ∙ ap (λ j. coins_after t (place_at c.args.active_branch.now.branch.now j)) {x = height t c.args.active_branch.now.active} {y = c.height-top.result - 0} (omega (arith, c.height-top.ensures.value));
    }

pub disconnect_tip-requires-clause-branch : goal.disconnect_tip-requires-clause-branch
disconnect_tip-requires-clause-branch g c = (stands c.args.active_branch.now c.args.fork c.requires.active c.requires.on c.requires.connected).can

pub disconnect_tip-requires-clause-inside : goal.disconnect_tip-requires-clause-inside
disconnect_tip-requires-clause-inside g c =
    let s = stands c.args.active_branch.now c.args.fork c.requires.active c.requires.on c.requires.connected in
    omega (arith, s.long, c.height-top.ensures.value)

pub returns-clause-coins : goal.returns-clause-coins
returns-clause-coins g c =
    let t = c.args.active_branch.now.tree.now.blocks in
    let s = stands c.args.active_branch.now c.args.fork c.requires.active c.requires.on c.requires.connected in
    c.loop-done.invariant.coins
    ∙ ap (λ j. coins_after t (place_at c.args.active_branch.now.branch.now j)) {x = c.height-top.result - c.loop-done.done} {y = height t c.args.fork}
    (omega (arith, s.low, c.height-low.ensures.value, c.height-top.ensures.value, c.loop-done-test.false, c.loop-done.auto.done-end))
    ∙ ap (coins_after t) s.here
