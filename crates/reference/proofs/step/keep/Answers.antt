use Rattle.std.proofs.Common.{◌≡◌, ℕ, suc, ◌<◌, ◌≤◌, Bool, false, List, ◌∷◌, Some, length, get_or, sym, ap, ◌∙◌, subst, arith}
use Rattle.std.proofs.lemmas.List.{get_or_read}
use Rattle.signatures.specs.Triple.{Triples}
use Rattle.rules.specs.declared.params.Params.{Params}
use Rattle.tree.specs.Branches.{Blocks, has, branch, height, place_of}
use Rattle.tree.specs.Names.{names}
use Rattle.tree.specs.State.{State, with_block}
use Rattle.tree.specs.laws.AddedBlock.{place-bound}
use Rattle.block.specs.declared.block.Block.{Block}
use Rattle.model.specs.Regtest.{regtest}
use Rattle.model.specs.declared.reply.SubmitReply.TheVariants.{Accepted}
use Rattle.model.specs.Settle.{active, settle}
use Rattle.model.specs.Submission.{outcome_of_added, submit_says}
use Rattle.reference.specs.inside.Replay.{AreAlone, AreJudgements, AreKeptBlocks, IsRight, blocks_before, blocks_in, blocks_of, reply_by_trial, state_of_replayed, trial_on}
use Rattle.model.specs.laws.SettledState.{settle-blocks}
use Rattle.reference.specs.declared.branch_replay.Trial.{Trial}
use Rattle.reference.specs.declared.judgement.Judgement.{Judgement}
use Rattle.reference.specs.declared.kept_block.KeptBlock.{KeptBlock}
use Rattle.reference.specs.declared.state.Replayed.{Replayed}
use Rattle.reference.proofs.KeptBlocks.{length-blocks}
use Rattle.reference.proofs.States.{count, genesis-usable, state-bad, bad_above, trial_found, branch_alone, branch_long, branch_few, branch_blocks}
use Rattle.reference.proofs.Steps.{added_active, added_other}
use Rattle.reference.proofs.step.keep.Goals as goal

module _ (params : Params) (triples : Triples) (old : Replayed) (right : IsRight (regtest params triples) old) (b : Block) (parent : ℕ) (named : place_of names (state_of_replayed old).blocks b.header.prev ≡ Some parent) where
  -- the parent is kept
  kept_parent : parent < length old.held.items
  unfolding state_of_replayed
  kept_parent =
      let n = length-blocks old.held.items right.some in
      let p = place-bound names (blocks_of old.held.items) b.header.prev parent named in
      omega arith

  -- its branch as it is lent
  module _ {first : List KeptBlock} {walked lent : List ℕ} (first-are : first ≡ old.held.items) (walk : ◌≡◌ {A = List ℕ} walked (branch (blocks_of first) parent)) (lent-is : ◌≡◌ {A = List ℕ} lent walked) where
    places : ◌≡◌ {A = List ℕ} lent (branch (blocks_of old.held.items) parent)
    places = lent-is ∙ walk ∙ ap (λ (k : List KeptBlock). branch (blocks_of k) parent) first-are

    branch_some : length lent ≡ suc (height (blocks_of old.held.items) parent)
    branch_some = ap (λ (k : List ℕ). length k) places ∙ branch_long params triples old right parent kept_parent

    branch_bound : length lent ≤ 1000000
    branch_bound = subst (λ (k : List ℕ). length k ≤ 1000000) (sym places) (branch_few params triples old right parent kept_parent)

    -- each of its blocks stands alone
    alone_there : {held : List KeptBlock} → held ≡ old.held.items → AreAlone held lent
    alone_there held-are =
        subst (λ (k : List KeptBlock). AreAlone k lent) (sym held-are)
        (subst (λ (k : List ℕ). AreAlone old.held.items k) (sym places) (branch_alone params triples old right parent kept_parent))

    -- what the replay found is of the blocks below
    tried_on : {held : List KeptBlock} {trial : Trial} → held ≡ old.held.items → trial ≡ trial_on (regtest params triples) (b ∷ blocks_in held lent)
        → trial ≡ trial_on (regtest params triples) (b ∷ blocks_before (state_of_replayed old).blocks parent)
    unfolding state_of_replayed
    tried_on held-are is =
        is ∙ ap (λ (l : List KeptBlock). trial_on (regtest params triples) (b ∷ blocks_in l lent)) held-are
        ∙ ap (λ (l : List ℕ). trial_on (regtest params triples) (b ∷ blocks_in old.held.items l)) places
        ∙ ap (λ (l : List Block). trial_on (regtest params triples) (b ∷ l)) (branch_blocks params triples old right parent kept_parent)

module _ (params : Params) (triples : Triples) (old added : Replayed) (right : IsRight (regtest params triples) old) {b : Block} {parent place len : ℕ}
    (place-is : place ≡ len) (counted : len ≡ length old.held.items) (added-is : state_of_replayed added ≡ with_block (state_of_replayed old) b parent) where
  -- the new block is the last one
  last : place ≡ length (state_of_replayed added).blocks
  last =
      let n = count (regtest params triples) old right in
      let one : length (state_of_replayed added).blocks ≡ suc (length (state_of_replayed old).blocks) = ap (λ (q : State Block). length q.blocks) added-is in
      omega arith

  -- and has no mark
  unmarked : has (state_of_replayed added).bad place ≡ false
  unmarked = ap (λ (q : State Block). has q.bad place) added-is ∙ bad_above (regtest params triples) old right place (omega arith)

  module _ (settled : Replayed) (settled-is : state_of_replayed settled ≡ settle (regtest params triples) (state_of_replayed added)) where
    -- settled, the state is that of the block added and settled
    whole : state_of_replayed settled ≡ settle (regtest params triples) (with_block (state_of_replayed old) b parent)
    whole = settled-is ∙ ap (settle (regtest params triples)) added-is

    -- the block has a flag in it
    within : IsRight (regtest params triples) settled → place < length settled.bad.items
    within right-settled =
        let l = last in
        let m = count (regtest params triples) settled right-settled in
        let f = right-settled.bad in
        let two : length (state_of_replayed settled).blocks ≡ length (state_of_replayed added).blocks =
        ap (λ (q : State Block). length q.blocks) settled-is ∙ ap (λ (k : Blocks Block). length k) (settle-blocks (regtest params triples) (state_of_replayed added)) in
        omega arith

    -- the answer to it, if it is active
    active_says : IsRight (regtest params triples) added → place ≡ active (regtest params triples) (state_of_replayed added)
        → submit_says (state_of_replayed settled) Accepted ≡ outcome_of_added (regtest params triples) (settle (regtest params triples) (with_block (state_of_replayed old) b parent))
    active_says right-added is =
        added_active params triples (state_of_replayed added) (state_of_replayed settled) (genesis-usable (regtest params triples) added right-added) settled-is place last is
        ∙ ap (outcome_of_added (regtest params triples)) whole

    -- and if it isn't, with its flag and what was found of it
    other_says : IsRight (regtest params triples) added → IsRight (regtest params triples) settled → (place ≡ active (regtest params triples) (state_of_replayed added) → ⊥)
        → {judged : List Judgement} → AreJudgements (regtest params triples) (state_of_replayed added) judged → (flag : Bool) → flag ≡ get_or settled.bad.items place flag → (found : Judgement) → found ≡ get_or judged place found
        → submit_says (state_of_replayed settled) (reply_by_trial flag found.trial) ≡ outcome_of_added (regtest params triples) (settle (regtest params triples) (with_block (state_of_replayed old) b parent))
    other_says right-added right-settled other {judged} are flag flag-is found found-is =
        let w = within right-settled in
        let l = last in
        let t = state_of_replayed added in
        let u = state_of_replayed settled in
        let bad : flag ≡ has u.bad place = get_or_read settled.bad.items place flag w flag-is false ∙ sym (state-bad settled place w) in
        let fresh = ap (λ (j : Judgement). j.trial) found-is ∙ trial_found params triples t judged are place found (omega arith) in
        added_other params triples t u (genesis-usable (regtest params triples) added right-added) settled-is place last other unmarked found.trial fresh flag bad
        ∙ ap (outcome_of_added (regtest params triples)) whole

pub settle-requires : goal.settle-requires
settle-requires c =
    c.in_ok-add.ensures.right c.args.chain.now.params.now c.args.chain.now.table.now c.requires.right
    (tried_on c.args.chain.now.params.now c.args.chain.now.table.now c.args.old.now c.requires.right c.args.block c.args.parent c.requires.parent c.deref.ensures.value c.in_ok-branch.ensures c.deref-3.ensures.value c.deref-2.ensures.value c.in_ok-trial.ensures)

pub returns-then-place-settled-clause-state : goal.returns-then-place-settled-clause-state
returns-then-place-settled-clause-state c =
    let p = c.args.chain.now.params.now in
    let t = c.args.chain.now.table.now in
    let tried = tried_on p t c.args.old.now c.requires.right c.args.block c.args.parent c.requires.parent c.deref.ensures.value c.in_ok-branch.ensures c.deref-3.ensures.value c.deref-2.ensures.value c.in_ok-trial.ensures in
    active_says p t c.args.old.now c.add.new.self c.requires.right c.len-place.ensures c.args.old.now.held.ok.0 c.in_ok-add.ensures.state c.settle.new.old c.in_ok-settled.ensures.state
    (c.in_ok-add.ensures.right p t c.requires.right tried) (c.if-place-settled.true ∙ c.in_ok-settled.ensures.active)

pub index-requires : goal.index-requires
index-requires c =
    let w = within c.args.chain.now.params.now c.args.chain.now.table.now c.args.old.now c.add.new.self c.requires.right c.len-place.ensures c.args.old.now.held.ok.0 c.in_ok-add.ensures.state
    c.settle.new.old c.in_ok-settled.ensures.state c.in_ok-settled.ensures.right in
    let f = c.settle.new.old.bad.ok in
    omega arith

pub index-requires-2 : goal.index-requires-2
index-requires-2 c =
    let l = last c.args.chain.now.params.now c.args.chain.now.table.now c.args.old.now c.add.new.self c.requires.right c.len-place.ensures c.args.old.now.held.ok.0 c.in_ok-add.ensures.state in
    let b = c.in_ok-settled.ensures.judged.same in
    let w = c.in_ok-settled.settled.judged.ok in
    omega arith

pub returns-clause-state : goal.returns-clause-state
returns-clause-state c =
    let params = c.args.chain.now.params.now in
    let triples = c.args.chain.now.table.now in
    let old = c.args.old.now in
    let tried = tried_on params triples old c.requires.right c.args.block c.args.parent c.requires.parent c.deref.ensures.value c.in_ok-branch.ensures c.deref-3.ensures.value c.deref-2.ensures.value c.in_ok-trial.ensures in
    ap (submit_says (state_of_replayed c.settle.new.old)) c.rejected.ensures
    ∙ other_says params triples old c.add.new.self c.requires.right c.len-place.ensures old.held.ok.0 c.in_ok-add.ensures.state c.settle.new.old c.in_ok-settled.ensures.state
    (c.in_ok-add.ensures.right params triples c.requires.right tried) c.in_ok-settled.ensures.right (λ e. c.if-place-settled.false (e ∙ sym c.in_ok-settled.ensures.active))
    c.in_ok-settled.ensures.judged c.index.result.now c.index.ensures c.index-2.result.now c.index-2.ensures

pub add-requires-clause-right : goal.add-requires-clause-right
add-requires-clause-right c = (c.args.chain.now.params.now, c.args.chain.now.table.now, c.requires.right)

pub branch_of-requires-clause-kept : goal.branch_of-requires-clause-kept
branch_of-requires-clause-kept c =
    subst (λ (k : List KeptBlock). c.args.parent < length k) (sym c.deref.ensures.value)
    (kept_parent c.args.chain.now.params.now c.args.chain.now.table.now c.args.old.now c.requires.right c.args.block c.args.parent c.requires.parent)

pub branch_of-requires-clause-held : goal.branch_of-requires-clause-held
branch_of-requires-clause-held c = subst (λ (k : List KeptBlock). AreKeptBlocks (blocks_of k) k) (sym c.deref.ensures.value) c.requires.right.held

pub replay-requires-clause-alone : goal.replay-requires-clause-alone
replay-requires-clause-alone c =
    alone_there c.args.chain.now.params.now c.args.chain.now.table.now c.args.old.now c.requires.right c.args.block c.args.parent c.requires.parent
    c.deref.ensures.value c.in_ok-branch.ensures c.deref-3.ensures.value c.deref-2.ensures.value

pub replay-requires-clause-some : goal.replay-requires-clause-some
replay-requires-clause-some c =
    let l = branch_some c.args.chain.now.params.now c.args.chain.now.table.now c.args.old.now c.requires.right c.args.block c.args.parent c.requires.parent c.deref.ensures.value c.in_ok-branch.ensures c.deref-3.ensures.value in
    omega arith

pub replay-requires-clause-few : goal.replay-requires-clause-few
replay-requires-clause-few c =
    let l = branch_bound c.args.chain.now.params.now c.args.chain.now.table.now c.args.old.now c.requires.right c.args.block c.args.parent c.requires.parent c.deref.ensures.value c.in_ok-branch.ensures c.deref-3.ensures.value in
    omega arith
