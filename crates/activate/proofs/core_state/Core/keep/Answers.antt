use Rattle.std.proofs.Common.{◌≡◌, ℕ, ◌≤◌, List, ◌∷◌, length, vec_capacity, deque_capacity, Result, Ok, Err, OnOk, OnErr, arith, sym, subst}
use Rattle.block.specs.declared.block.Block.{Block}
use Rattle.coins.specs.declared.coin.Coin.{Coin}
use Rattle.tree.specs.Branches.{Blocks}
use Rattle.tree.specs.State.{State, with_block}
use Rattle.tree.specs.laws.Parents.{height-place}
use Rattle.activate.specs.inside.Kept.{IsBranch, HasRoom}
use Rattle.activate.specs.laws.Growth.{branch-beside}
use Rattle.activate.proofs.Cores.{places-long, medians-long, packed-long}
use Rattle.activate.proofs.core_state.Core.keep.Goals as goal

-- what is kept beside the tree is right of some blocks
abbrev Right : Blocks Block → ℕ → List ℕ → List ℕ → List (List (List Coin)) → List (List (List Coin)) → ℕ → ℕ → ℕ → ℕ → Type 0
Right t p places medians undo packed a b c d = (p ≤ length t) × IsBranch t p places medians undo packed × HasRoom t a b c d

-- and of one more
abbrev HasMore : Blocks Block → ℕ → List ℕ → List ℕ → List (List (List Coin)) → List (List (List Coin)) → ℕ → ℕ → ℕ → ℕ → Type 0
HasMore t p places medians undo packed a b c d = (block : Block) (parent : ℕ) → Right (record { block = block; parent = parent } ∷ t) p places medians undo packed a b c d

either : {A E : Type 0} (o : Result A E) (old new : State Block) (block : Block) (parent p : ℕ) (places medians : List ℕ) (undo packed : List (List (List Coin))) (a b c d : ℕ)
    → HasMore old.blocks p places medians undo packed a b c d → Right old.blocks p places medians undo packed a b c d
    → OnOk o (new ≡ with_block old block parent) → OnErr o (new ≡ old) → Right new.blocks p places medians undo packed a b c d
either (Ok x) old new block parent p places medians undo packed a b c d more same e f = subst (λ (s : State Block). Right s.blocks p places medians undo packed a b c d) (sym e) (more block parent)
either (Err x) old new block parent p places medians undo packed a b c d more same e f = subst (λ (s : State Block). Right s.blocks p places medians undo packed a b c d) (sym f) same

pub overflow_sub-more : goal.overflow_sub-more
overflow_sub-more g c =
    let t = c.self.inside.tree.blocks in
    let l = places-long t c.self.inside.active c.self.invariant.0 _ _ _ _ c.self.invariant.1 in
    let h = height-place t c.self.inside.active c.self.inside.active (omega arith) c.self.invariant.0 in
    let a = c.self.invariant.0 in
    let n = c.len.ensures.count in
    let m = c.len-2.ensures in
    let w = c.self.inside.branch.ok.0 in
    omega arith

pub invariant_of-self-2 : goal.invariant_of-self-2
invariant_of-self-2 g c =
    let t = c.self.inside.tree.blocks in
    let p = c.self.inside.active in
    let l = places-long t p c.self.invariant.0 _ _ _ _ c.self.invariant.1 in
    let m = medians-long t p c.self.invariant.0 _ _ _ _ c.self.invariant.1 in
    let h = height-place t p p (omega arith) c.self.invariant.0 in
    let a = c.self.invariant.0 in
    let n = c.len.ensures.count in
    let k = c.len-2.ensures in
    let w = c.self.inside.branch.ok.0 in
    let v = c.self.inside.medians.ok.0 in
    let one = c.in_ok-reserve.ensures.ok in
    let two = c.in_ok-reserve-2.ensures.ok in
    let one_len = c.reserve.ensures.len in
    let two_len = c.reserve-2.ensures.len in
    let o = packed-long t p c.self.invariant.0 _ _ _ _ c.self.invariant.1 in
    let u = c.self.inside.packed.ok.0 in
    let three = c.in_ok-reserve-3.ensures.ok in
    let three_len = c.reserve-3.ensures.len in
    let undo = c.self.inside.undo.items in
    let places : List ℕ = c.reserve.new.self.items in
    let medians : List ℕ = c.reserve-2.new.self.items in
    let packed : List (List (List Coin)) = c.reserve-3.new.self.items in
    let led : (blocks : Blocks Block) → IsBranch blocks p c.self.inside.branch.items c.self.inside.medians.items undo c.self.inside.packed.items → IsBranch blocks p places medians undo packed =
    λ blocks is. rw (c.reserve.ensures.items, c.reserve-2.ensures.items, c.reserve-3.ensures.items) is in
    let beside : HasMore t p places medians undo packed (vec_capacity c.reserve.new.self) (vec_capacity c.reserve-2.new.self) (deque_capacity c.self.inside.undo) (vec_capacity c.reserve-3.new.self) = λ b q. (
      omega arith,
      led (record { block = b; parent = q } ∷ t) (branch-beside (record { block = b; parent = q }) t p _ _ _ _ c.self.invariant.0 c.self.invariant.1),
      record { for_places = omega arith; for_medians = omega arith; for_undo = c.self.invariant.2.for_undo; for_packed = omega arith },
    ) in
    let same : Right t p places medians undo packed (vec_capacity c.reserve.new.self) (vec_capacity c.reserve-2.new.self) (deque_capacity c.self.inside.undo) (vec_capacity c.reserve-3.new.self) = (
      a,
      led t c.self.invariant.1,
      record { for_places = omega arith; for_medians = omega arith; for_undo = c.self.invariant.2.for_undo; for_packed = omega arith },
    ) in
    either c.add.result c.self.inside.tree c.add.new.self c.args.new.block c.args.new.parent p _ _ _ _ _ _ _ _ beside same c.add.ensures.ok c.add.ensures.err
