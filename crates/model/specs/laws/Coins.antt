-- The replay of a branch along its blocks, and the bound on all coins.
use Rattle.std.proofs.Common.{◌≡◌, ℕ, zero, suc, ◌+◌, ◌*◌, ◌<◌, ◌≤◌, ℤ, pos, ◌+ℤ◌, ◌≤ℤ◌, true, false, List, [], ◌∷◌, length, Option, None, Some, sym, refl, ap, ◌∙◌, subst, arith, suc-mul}
use Rattle.std.specs.Option.{is_none}
use Rattle.std.proofs.lemmas.Bool.{true≢false}
use Rattle.std.proofs.lemmas.Int.{ints}
use Rattle.txn.specs.declared.reason.Reason.{Reason}
use Rattle.tree.specs.Branches.{Blocks, branch, before, height, parent_at, block_at, blocks_at}
use Rattle.tree.specs.State.{State, opening, beats, with_block}
use Rattle.tree.specs.laws.Branches.{branch_head, branch-genesis, on-genesis, on-itself}
use Rattle.tree.specs.laws.Parents.{parent-kept, before-parent, branch-parent, height-parent, on-parent, climb}
use Rattle.tree.specs.laws.AddedBlock.{blocks-new, blocks-old, usable_there}
use Rattle.model.specs.Rules.{Rules}
use Rattle.model.specs.Valid.{fault_over, fault, connects, branch_connects}
use Rattle.model.specs.Settle.{active, settle}
use Rattle.model.specs.Replay.{Ledger, replay, coins_at, coins}
use Rattle.model.specs.Total.{subsidies, IsBounded}
use Rattle.model.specs.Step.{Request, state_after_requests}
use Rattle.model.specs.StateInvariant.{IsSettled, AllKept}
use Rattle.model.specs.laws.Actives.{active_kept, active_valid}
use Rattle.model.specs.laws.Candidates.{valid_gives, valid_below}
use Rattle.model.specs.laws.Ordinary.{active-tip, active-beside}
use Rattle.model.specs.laws.SettledState.{active-settle}
use Rattle.model.specs.laws.Steps.{opening_sound, after_sound}
use Rattle.model.specs.laws.Kept.{alone-at, after_kept}

module _ {B I C : Type 0} (r : Rules B I) (ledger : Ledger B C) (t : Blocks B) where
  abbrev at : ℕ → C
  at p = coins_at r ledger t p

  pub length-blocks : (ps : List ℕ) → length (blocks_at r.names t ps) ≡ length ps
  length-blocks [] = refl
  length-blocks (p ∷ ps) = ap suc (length-blocks ps)

  replay-list : (b : B) (p : ℕ) (ps : List ℕ) → replay ledger (b ∷ blocks_at r.names t (p ∷ ps)) ≡ ledger.after (replay ledger (blocks_at r.names t (p ∷ ps))) b (length (p ∷ ps))
  unfolding replay
  replay-list b p ps = ap (λ (n : ℕ). ledger.after (replay ledger (blocks_at r.names t (p ∷ ps))) b (suc n)) (length-blocks ps)

  -- the coins after a block are what it makes of those before it
  pub replay-block : (b : B) (p : ℕ) → p ≤ length t → replay ledger (b ∷ blocks_at r.names t (branch t p)) ≡ ledger.after (at p) b (length (branch t p))
  replay-block b p h =
      subst (λ (l : List ℕ). replay ledger (b ∷ blocks_at r.names t l) ≡ ledger.after (replay ledger (blocks_at r.names t l)) b (length l)) (sym (branch_head t p h)) (replay-list b p (before t p))

  -- genesis leaves none
  pub coins-genesis : at 0 ≡ ledger.empty
  unfolding replay
  coins-genesis = ap (λ (l : List ℕ). replay ledger (blocks_at r.names t l)) (branch-genesis t)

  module _ (p : ℕ) (z : 0 < p) (h : p ≤ length t) where
    pub length-older : length (branch t (parent_at t p)) ≡ height t p
    unfolding height
    length-older = ap (λ (l : List ℕ). length l) (sym (before-parent t p z h))

    -- a step up: the coins of a block are what it makes of its parent's
    pub step-up : at p ≡ ledger.after (at (parent_at t p)) (block_at r.names t p) (height t p)
    step-up =
        ap (λ (l : List ℕ). replay ledger (blocks_at r.names t l)) (branch-parent t p z h)
        ∙ replay-block (block_at r.names t p) (parent_at t p) (parent-kept t p z h)
        ∙ ap (ledger.after (at (parent_at t p)) (block_at r.names t p)) length-older

    -- and its fault is the one over its parent's branch
    pub fault-parent : fault r t p ≡ r.connect_fault (blocks_at r.names t (branch t (parent_at t p))) (block_at r.names t p)
    unfolding fault fault_over
    fault-parent =
        ap (λ (l : List ℕ). fault_over r (blocks_at r.names t l) (block_at r.names t p)) (before-parent t p z h ∙ branch_head t (parent_at t p) (parent-kept t p z h))
        ∙ first (block_at r.names t (parent_at t p)) (blocks_at r.names t (before t (parent_at t p)))
        ∙ ap (λ (l : List ℕ). r.connect_fault (blocks_at r.names t l) (block_at r.names t p)) (sym (branch_head t (parent_at t p) (parent-kept t p z h)))
      where
        first : (b : B) (l : List B) → fault_over r (b ∷ l) (block_at r.names t p) ≡ r.connect_fault (b ∷ l) (block_at r.names t p)
        first b l = refl

    pub connects-parent : connects r t p ≡ true → r.connect_fault (blocks_at r.names t (branch t (parent_at t p))) (block_at r.names t p) ≡ None
    unfolding connects
    connects-parent e = none_of (fault r t p) e fault-parent
      where
        none_of : (o : Option Reason) {q : Option Reason} → is_none o ≡ true → o ≡ q → q ≡ None
        none_of None e f = sym f
        none_of (Some x) e f = absurd (true≢false (sym e))

    -- a law on blocks over replayed coins holds of the block
    pub law-at : (Q : C → ℕ → Type 0) → ((older : List B) → 0 < length older → r.alone_fault (block_at r.names t p) ≡ None → r.connect_fault older (block_at r.names t p) ≡ None → Q (replay ledger older) (length older))
        → AllKept r t → connects r t p ≡ true → Q (at (parent_at t p)) (height t p)
    law-at Q law all e =
        let older : List B = blocks_at r.names t (branch t (parent_at t p)) in
        let long : length older ≡ height t p = length-blocks (branch t (parent_at t p)) ∙ length-older in
        let up = height-parent t p z h in
        subst (Q (at (parent_at t p))) long (law older (omega arith) (alone-at r t p all z h) (connects-parent e))

-- ---- what a new block does to the coins of the active branch

module _ {B I C : Type 0} (r : Rules B I) (ledger : Ledger B C) (s : State B) (sound : IsSettled r s) (b : B) where
  a_kept : active r s ≤ length s.blocks
  a_kept = active_kept r s sound.genesis

  -- on the active block, if it connects
  pub coins-tip : r.connect_fault (blocks_at r.names s.blocks (branch s.blocks (active r s))) b ≡ None
      → coins r ledger (settle r (with_block s b (active r s))) ≡ ledger.after (coins r ledger s) b (length (branch s.blocks (active r s)))
  unfolding settle
  coins-tip good =
      let t : State B = with_block s b (active r s) in
      ap (coins_at r ledger t.blocks)
      (active-settle r t (usable_there s (record { block = b; parent = active r s }) 0 (omega arith) ∙ sound.genesis) ∙ active-tip r s sound b (active r s) refl good)
      ∙ ap (replay ledger) (blocks-new r.names (record { block = b; parent = active r s }) s.blocks)
      ∙ replay-block r ledger s.blocks b (active r s) a_kept

  -- beside it: they stay
  pub coins-beside : (p : ℕ) → beats (with_block s b p) (suc (length s.blocks)) (active r s) ≡ false → coins r ledger (with_block s b p) ≡ coins r ledger s
  coins-beside p lower =
      ap (coins_at r ledger (with_block s b p).blocks) (active-beside r s sound b p lower)
      ∙ ap (replay ledger) (blocks-old r.names (record { block = b; parent = p }) s.blocks (active r s) a_kept)

-- ---- the bound on all coins

module _ {B I C : Type 0} (r : Rules B I) (ledger : Ledger B C) (total : C → ℤ) (subsidy : ℕ → ℕ) (bounded : IsBounded r ledger total subsidy) where
  -- the coins that a valid branch leaves are worth at most the subsidies up to its height
  pub total-valid : (t : Blocks B) (p : ℕ) → AllKept r t → p ≤ length t → branch_connects r t p ≡ true → total (coins_at r ledger t p) ≤ℤ pos (subsidies subsidy (height t p))
  unfolding subsidies
  total-valid t p all h =
      climb t 0 (λ x. branch_connects r t x ≡ true → total (coins_at r ledger t x) ≤ℤ pos (subsidies subsidy (height t x)))
      (λ v. let e = ap total (coins-genesis r ledger t) ∙ bounded.opens in omega (arith, ints))
      (λ x z k o below v.
      let e = below (valid_below r t x (parent_at t x) v (on-parent t x z k)) in
      let up = ap total (step-up r ledger t x z k) in
      let one = law-at r ledger t x z k (λ c n. total (ledger.after c (block_at r.names t x) n) ≤ℤ (total c +ℤ pos (subsidy n)))
      (λ older z a g. bounded.raises older (block_at r.names t x) z a g) all (valid_gives r t x x v (on-itself t x k)) in
      let tall = height-parent t x z k in
      let same : subsidies subsidy (height t x) ≡ subsidies subsidy (height t (parent_at t x)) + subsidy (height t x) = ap (subsidies subsidy) tall ∙ ap (λ n. subsidies subsidy (height t (parent_at t x)) + subsidy n) (sym tall) in
      omega (arith, ints))
      p h (on-genesis t p)

  -- so are those of the active branch of each state that commands reach
  pub total-reached : (cs : List (Request B I)) → total (coins r ledger (state_after_requests r opening cs)) ≤ℤ pos (subsidies subsidy (height (state_after_requests r opening cs).blocks (active r (state_after_requests r opening cs))))
  total-reached cs =
      let s : State B = state_after_requests r opening cs in
      let sound = after_sound r opening cs (opening_sound r) in
      total-valid s.blocks (active r s) (after_kept r opening cs tt) (active_kept r s sound.genesis) (active_valid r s sound.genesis)

-- where no subsidy is above m, a bound in one product
pub subsidies-most : (subsidy : ℕ → ℕ) (m : ℕ) → ((h : ℕ) → subsidy h ≤ m) → (n : ℕ) → subsidies subsidy n ≤ n * m
unfolding subsidies
subsidies-most subsidy m most zero = omega arith
subsidies-most subsidy m most (suc n) =
    let a = subsidies-most subsidy m most n in
    let b = most (suc n) in
    let c : suc n * m ≡ n * m + m = suc-mul n m in
    omega arith
