use Rattle.std.proofs.Common.{◌≡◌, ℕ, suc, ◌-◌, ◌<◌, List, length, reverse, get_or, sym, ap, ◌∙◌, arith}
use Rattle.std.proofs.lemmas.List.{length-reverse, length-map, get_or_read_under}
use Rattle.txn.specs.First.{first_broken}
use Rattle.block.specs.declared.block.Block.{Block}
use Rattle.signatures.specs.Triple.{Triples}
use Rattle.rules.specs.declared.params.Params.{Params}
use Rattle.rules.specs.Params.{at}
use Rattle.rules.specs.Context.{context_rules}
use Rattle.tree.specs.Branches.{branch, block_at, blocks_at, height}
use Rattle.tree.specs.MedianTime.{median_time_past}
use Rattle.tree.specs.Names.{names}
use Rattle.reference.specs.declared.kept_block.KeptBlock.{KeptBlock}
use Rattle.reference.specs.declared.state.Replayed.{Replayed}
use Rattle.model.specs.Regtest.{medians_of, regtest}
use Rattle.reference.specs.inside.Replay.{IsRight, blocks_of, blocks_in, block_in, state_of_replayed}
use Rattle.reference.proofs.States.{branch_within, branch_long, branch_few, branch_blocks}
use Rattle.model.specs.laws.Medians.{length-medians}
use Rattle.reference.proofs.BranchReplay.{cutoff-is}
use Rattle.reference.proofs.step.fault_by_place.Goals as goal

-- the branch that was walked, in lists as they were lent
module _ (old : Replayed) (parent : ℕ) {first : List KeptBlock} {walked : List ℕ} (first-are : first ≡ old.held.items) (walk : ◌≡◌ {A = List ℕ} walked (branch (blocks_of first) parent)) where
  places : ◌≡◌ {A = List ℕ} walked (branch (blocks_of old.held.items) parent)
  places = walk ∙ ap (λ (k : List KeptBlock). branch (blocks_of k) parent) first-are

  as_long : length walked ≡ length (branch (blocks_of old.held.items) parent)
  as_long = ap (λ (k : List ℕ). length k) places

  module _ (params : Params) (triples : Triples) (right : IsRight (regtest params triples) old) (kept : parent < length old.held.items) where
    -- it has a block
    some : length walked ≡ suc (height (blocks_of old.held.items) parent)
    some = as_long ∙ branch_long params triples old right parent kept

    -- its places are of kept blocks
    within : {lent : List ℕ} {held : List KeptBlock} → ◌≡◌ {A = List ℕ} lent walked → held ≡ old.held.items → (i : ℕ) → i < length lent → get_or lent i 0 < length held
    within lent-is held-are i h =
        let e = lent-is ∙ places in
        let n = ap (λ (k : List ℕ). length k) e in
        let x = ap (λ (k : List ℕ). get_or k i 0) e in
        let f = ap (λ (k : List KeptBlock). length k) held-are in
        let w = branch_within params triples old right parent kept i (omega arith) in
        omega arith

-- there are as many medians as blocks
medians_long : (held : List KeptBlock) {lent walked medians : List ℕ} → ◌≡◌ {A = List ℕ} medians (reverse (medians_of (blocks_in held lent))) → ◌≡◌ {A = List ℕ} lent walked → length medians ≡ length walked
medians_long held {lent} is lent-is =
    ap (λ (k : List ℕ). length k) is ∙ length-reverse (medians_of (blocks_in held lent)) ∙ length-medians (blocks_in held lent) ∙ length-map lent (block_in held) ∙ ap (λ (k : List ℕ). length k) lent-is

pub medians_by_height-requires : goal.medians_by_height-requires
medians_by_height-requires c =
    within c.args.old.now c.args.parent c.deref.ensures.value c.in_ok-branch.ensures c.args.chain.now.params.now c.args.chain.now.table.now c.requires.right c.requires.kept c.deref-3.ensures.value c.deref-2.ensures.value

pub overflow_sub-len : goal.overflow_sub-len
overflow_sub-len c =
    let l = some c.args.old.now c.args.parent c.deref.ensures.value c.in_ok-branch.ensures c.args.chain.now.params.now c.args.chain.now.table.now c.requires.right c.requires.kept in
    let e = c.len.ensures in
    let w = c.in_ok-branch.branch.ok in
    omega arith

pub index-median-requires : goal.index-median-requires
index-median-requires c =
    let l = some c.args.old.now c.args.parent c.deref.ensures.value c.in_ok-branch.ensures c.args.chain.now.params.now c.args.chain.now.table.now c.requires.right c.requires.kept in
    let e = c.len.ensures in
    let w = c.in_ok-branch.branch.ok in
    let v = c.in_ok-medians.medians.ok in
    let m = medians_long c.deref-2.result.now c.in_ok-medians.ensures c.deref-3.ensures.value in
    omega arith

pub overflow_cast-len : goal.overflow_cast-len
overflow_cast-len c =
    let n = as_long c.args.old.now c.args.parent c.deref.ensures.value c.in_ok-branch.ensures in
    let l = branch_few c.args.chain.now.params.now c.args.chain.now.table.now c.args.old.now c.requires.right c.args.parent c.requires.kept in
    let e = c.len-2.ensures in
    let w = c.in_ok-branch.branch.ok in
    omega arith

pub returns : goal.returns
unfolding state_of_replayed
returns c =
    let old = c.args.old.now in
    let b = c.args.block.now in
    let ps = c.args.chain.now.params.now in
    let e : ◌≡◌ {A = List ℕ} c.deref-3.result.now (branch (blocks_of old.held.items) c.args.parent) = c.deref-3.ensures.value ∙ places old c.args.parent c.deref.ensures.value c.in_ok-branch.ensures in
    let bs = blocks_at names (blocks_of old.held.items) (branch (blocks_of old.held.items) c.args.parent) in
    let blocks : ◌≡◌ {A = List Block} (blocks_in c.deref-2.result.now c.deref-3.result.now) bs =
    ap (λ (k : List KeptBlock). blocks_in k c.deref-3.result.now) c.deref-2.ensures.value ∙ ap (λ (k : List ℕ). blocks_in old.held.items k) e
    ∙ branch_blocks c.args.chain.now.params.now c.args.chain.now.table.now old c.requires.right c.args.parent c.requires.kept in
    let l = branch_long c.args.chain.now.params.now c.args.chain.now.table.now old c.requires.right c.args.parent c.requires.kept in
    let n = as_long old c.args.parent c.deref.ensures.value c.in_ok-branch.ensures in
    let m : length bs ≡ length (branch (blocks_of old.held.items) c.args.parent) = length-map (branch (blocks_of old.held.items) c.args.parent) (block_at names (blocks_of old.held.items)) in
    let w = c.in_ok-branch.branch.ok in
    let v = c.in_ok-medians.medians.ok in
    let z1 = c.len.ensures in
    let z2 = c.len-2.ensures in
    let items : ◌≡◌ {A = List ℕ} c.in_ok-medians.medians.items (reverse (medians_of bs)) = c.in_ok-medians.ensures ∙ ap (λ (k : List Block). reverse (medians_of k)) blocks in
    let ml : length c.in_ok-medians.medians.items ≡ length bs = ap (λ (k : List ℕ). length k) items ∙ length-reverse (medians_of bs) ∙ length-medians bs in
    let long : c.len-2.result ≡ length bs = omega arith in
    let first : c.len.result - 1 ≡ length bs - 1 = omega arith in
    let cutoff : c.index-median.result.now ≡ median_time_past bs =
    get_or_read_under c.in_ok-medians.medians.items (c.len.result - 1) (length bs) c.index-median.result.now 0 c.index-median.ensures (omega arith) (sym ml)
    ∙ ap (λ (k : ℕ). get_or c.in_ok-medians.medians.items k 0) first ∙ ap (λ (k : List ℕ). get_or k (length bs - 1) 0) items
    ∙ cutoff-is ps bs (length bs) 0 (omega arith) (omega arith) in
    c.context_fault.ensures
    ∙ ap (λ (k : ℕ). first_broken (context_rules (at ps k) b k c.index-median.result.now c.args.now)) long
    ∙ ap (λ (k : ℕ). first_broken (context_rules (at ps (length bs)) b (length bs) k c.args.now)) cutoff
