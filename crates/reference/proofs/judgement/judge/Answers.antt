use Rattle.std.proofs.Common.{◌≡◌, ℕ, suc, ◌+◌, ◌<◌, ◌≤◌, Bool, false, not, ◌&&◌, List, get_or, length, reverse, sym, ap, ◌∙◌, arith}
use Rattle.std.specs.List.{list_all}
use Rattle.std.proofs.lemmas.List.{get_or_read}
use Rattle.tree.specs.Branches.{branch, has, height, parent_at}
use Rattle.tree.specs.State.{State, has_no_mark, rank, rank_in}
use Rattle.tree.specs.laws.Branches.{height-genesis}
use Rattle.tree.specs.laws.Parents.{branch-parent, height-parent, height-place}
use Rattle.hash.specs.declared.id.Id.{Id}
use Rattle.block.specs.declared.block.Block.{Block}
use Rattle.model.specs.Rules.{Rules}
use Rattle.reference.specs.declared.branch_replay.Trial.{Trial}
use Rattle.reference.specs.declared.branch_replay.Trial.TheVariants.{Valid}
use Rattle.reference.specs.declared.judgement.Judgement.{Judgement}
use Rattle.reference.specs.declared.kept_block.KeptBlock.{KeptBlock}
use Rattle.reference.specs.declared.state.Replayed.{Replayed}
use Rattle.reference.specs.inside.Replay.{AreJudged, IsRight, blocks_before, blocks_of, chain_rules, judgement_at, state_of_replayed, trial_on}
use Rattle.reference.proofs.KeptBlocks.{length-blocks, parent_before}
use Rattle.reference.proofs.States.{genesis-usable, state-bad}
use Rattle.reference.proofs.judgement.judge.Goals as goal

-- what is found, from its parts
found : {trial trial' : Trial} {u v : Bool} {h k r q : ℕ} → trial ≡ trial' → u ≡ v → h ≡ k → r ≡ q
    → ◌≡◌ {A = Judgement} (record { trial = trial; usable = u; height = h; rank = r }) (record { trial = trial'; usable = v; height = k; rank = q })
found {trial} {trial'} {u} {v} {h} {k} {r} {q} a b c d =
    ap (λ (x : Trial). made x u h r) a ∙ ap (λ (x : Bool). made trial' x h r) b ∙ ap (λ (x : ℕ). made trial' v x r) c ∙ ap (λ (x : ℕ). made trial' v k x) d
  where
    made : Trial → Bool → ℕ → ℕ → Judgement
    made t b n m = record { trial = t; usable = b; height = n; rank = m }

abbrev fallback : Judgement
fallback = record { trial = Valid; usable = false; height = 0; rank = 0 }

-- a block is on a branch without a mark where its parent is, and it has none
usable_on : (s : State Block) (p q : ℕ) → 0 < p → p ≤ length s.blocks → q ≡ parent_at s.blocks p → has_no_mark s p ≡ (not (has s.bad p) && has_no_mark s q)
unfolding has_no_mark
usable_on s p q z h e =
    ap (λ (l : List ℕ). list_all (λ x. not (has s.bad x)) l) (branch-parent s.blocks p z h)
    ∙ ap (λ (k : ℕ). not (has s.bad p) && list_all (λ x. not (has s.bad x)) (branch s.blocks k)) (sym e)

module _ {r : Rules Block Id} {old : Replayed} (right : IsRight r old) (p : ℕ) (kept : p < length old.held.items) (k : KeptBlock) (here : k ≡ get_or old.held.items p k) where
  -- what was found of a block when it came
  tried : k.trial ≡ trial_on r (blocks_before (blocks_of old.held.items) p)
  tried = ap (λ (x : KeptBlock). x.trial) (get_or_read old.held.items p k kept here k) ∙ right.tried p k kept

  module _ (above : 0 < p) where
    -- its parent is before it
    parent_is : (k.parent ≡ parent_at (blocks_of old.held.items) p) × (k.parent < p)
    parent_is = parent_before old.held.items p k right.held above kept (get_or_read old.held.items p k kept here k)

    module _ (judged : List Judgement) (below : AreJudged r (state_of_replayed old) judged p) where
      -- and is judged
      parent_judged : get_or judged k.parent fallback ≡ judgement_at r (state_of_replayed old) k.parent
      parent_judged = below k.parent fallback parent_is.1

      -- so the height isn't above the place
      height_below : (get_or judged k.parent fallback).height ≤ p
      unfolding judgement_at state_of_replayed
      height_below =
          let n = length-blocks old.held.items right.some in
          let b = parent_is.1 in
          let e : (get_or judged k.parent fallback).height ≡ height (blocks_of old.held.items) k.parent = ap (λ (j : Judgement). j.height) parent_judged in
          let h = height-place (blocks_of old.held.items) k.parent k.parent (omega arith) (omega arith) in
          omega arith

      -- and is one more than the parent's
      height_next : (get_or judged k.parent fallback).height + 1 ≡ height (blocks_of old.held.items) p
      unfolding judgement_at state_of_replayed
      height_next =
          let n = length-blocks old.held.items right.some in
          let e : (get_or judged k.parent fallback).height ≡ height (blocks_of old.held.items) k.parent = ap (λ (j : Judgement). j.height) parent_judged in
          let up : height (blocks_of old.held.items) p ≡ suc (height (blocks_of old.held.items) k.parent) =
          height-parent (blocks_of old.held.items) p above (omega arith) ∙ ap (λ (q : ℕ). suc (height (blocks_of old.held.items) q)) (sym parent_is.0) in
          omega arith

      -- and it is on a branch without a mark where its parent is, and it has none
      usable_next : (flag : Bool) → flag ≡ get_or old.bad.items p flag → (not flag && (get_or judged k.parent fallback).usable) ≡ has_no_mark (state_of_replayed old) p
      unfolding judgement_at state_of_replayed
      usable_next flag flag-is =
          let s = state_of_replayed old in
          let n = length-blocks old.held.items right.some in
          let bl = right.bad in
          let marked : flag ≡ has s.bad p = get_or_read old.bad.items p flag (omega arith) flag-is false ∙ sym (state-bad old p (omega arith)) in
          ap (λ (v : Bool). not v && (get_or judged k.parent fallback).usable) marked ∙ ap (λ (j : Judgement). not (has s.bad p) && j.usable) parent_judged
          ∙ sym (usable_on s p k.parent above (omega arith) parent_is.0)

pub returns-then-place-eq0 : goal.returns-then-place-eq0
unfolding judgement_at rank state_of_replayed
returns-then-place-eq0 c =
    let s = state_of_replayed c.args.old.now in
    found (tried c.requires.right c.args.place c.requires.kept c.index.result.now c.index.ensures)
    (sym (ap (has_no_mark s) c.if-place-eq0.true ∙ genesis-usable (chain_rules c.args._chain.now) c.args.old.now c.requires.right))
    (sym (ap (height s.blocks) c.if-place-eq0.true ∙ height-genesis s.blocks))
    (c.rank_of-rank.ensures ∙ ap (λ (l : List ℕ). rank_in (reverse l) c.args.place) c.deref.ensures.value)

pub offset_bounds-judged-index : goal.offset_bounds-judged-index
offset_bounds-judged-index c =
    let f = c.if-place-eq0.false in
    let b = (parent_is c.requires.right c.args.place c.requires.kept c.index-2.result.now c.index-2.ensures (omega arith)).1 in
    let m = c.requires.right.room in
    let l = c.requires.kept in
    omega arith

pub bounds-judged-index : goal.bounds-judged-index
bounds-judged-index c =
    let z = c.if-place-eq0.false in
    let q = (parent_is c.requires.right c.args.place c.requires.kept c.index-2.result.now c.index-2.ensures (omega arith)).1 in
    let n = c.requires.long in
    omega arith

pub overflow_add-result : goal.overflow_add-result
overflow_add-result c =
    let f = c.if-place-eq0.false in
    let h = height_below c.requires.right c.args.place c.requires.kept c.index-2.result.now c.index-2.ensures (omega arith) c.args.judged.now c.requires.below in
    let m = c.requires.right.room in
    let l = c.requires.kept in
    omega arith

pub returns : goal.returns
unfolding judgement_at rank state_of_replayed
returns c =
    let p = c.args.place in
    let right = c.requires.right in
    let kept = c.requires.kept in
    let g = c.index-2.result.now in
    let is = c.index-2.ensures in
    let judged = c.args.judged.now in
    let z = c.if-place-eq0.false in
    let above : 0 < p = omega arith in
    found (tried right p kept c.index.result.now c.index.ensures)
    (c.is_clean.ensures ∙ usable_next right p kept g is above judged c.requires.below c.index-3.result.now c.index-3.ensures)
    (height_next right p kept g is above judged c.requires.below)
    (c.rank_of-rank.ensures ∙ ap (λ (l : List ℕ). rank_in (reverse l) p) c.deref.ensures.value)
