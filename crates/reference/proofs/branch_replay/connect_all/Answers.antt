use Rattle.std.proofs.Common.{◌≡◌, ℕ, ◌+◌, ◌-◌, ◌<◌, ◌≤◌, false, List, Option, length, reverse, take, drop, get_or, Some, None, sym, ap, ◌∙◌, arith}
use Rattle.std.proofs.lemmas.List.{length-map, length-reverse, length-take-le, get_or-map, get_or_default}
use Rattle.signatures.specs.Triple.{Triples}
use Rattle.txn.specs.declared.reason.Reason.{Reason}
use Rattle.rules.specs.declared.params.Params.{Params}
use Rattle.block.specs.declared.block.Block.{Block}
use Rattle.coins.specs.Coins.{Coins}
use Rattle.connect.specs.Turns.{effect}
use Rattle.connect.specs.computed.Scripts.{connect_fault}
use Rattle.rules.specs.Params.{at}
use Rattle.reference.specs.declared.kept_block.KeptBlock.{KeptBlock}
use Rattle.reference.specs.declared.branch_replay.Trial.TheVariants.{Valid}
use Rattle.model.specs.Replay.{replay}
use Rattle.model.specs.Regtest.{medians_of, ledger, regtest}
use Rattle.reference.specs.inside.Replay.{block_in, blocks_in, first_kept, is_valid, trial_after, trial_on}
use Rattle.model.specs.laws.Medians.{length-medians}
use Rattle.reference.proofs.BranchReplay.{first_replay, first_trial, next_replay, next_trial, ends}
use Rattle.reference.proofs.branch_replay.connect_all.Goals as goal

long : (held : List KeptBlock) (branch : List ℕ) → length (blocks_in held branch) ≡ length branch
long held branch = length-map branch (block_in held)

pub loop-height-init : goal.loop-height-init
loop-height-init c =
    let hs = c.args.held.now in
    let br = c.args.branch.now in
    let bs = blocks_in hs br in
    let l = long hs br in
    let p = c.args.chain.now.params.now in
    let t = c.args.chain.now.table.now in
    let s = c.requires.some in
    record {
      coins = c.requires.empty ∙ sym (first_replay p t bs (omega arith) first_kept.block) ∙ ap (λ (n : ℕ). replay ledger (drop (n - 1) bs)) l;
      trial = ap (λ (n : ℕ). trial_on (regtest p t) (drop (n - 1) bs)) (sym l) ∙ first_trial p t bs (omega arith) first_kept.block;
    }

medians_long : (held : List KeptBlock) (branch medians : List ℕ) → ◌≡◌ {A = List ℕ} medians (reverse (medians_of (blocks_in held branch))) → length medians ≡ length branch
medians_long held branch medians e =
    ap (λ (k : List ℕ). length k) e ∙ length-reverse (medians_of (blocks_in held branch)) ∙ length-medians (blocks_in held branch) ∙ long held branch

pub bounds-medians-height : goal.bounds-medians-height
bounds-medians-height c =
    let m = medians_long c.args.held.now c.args.branch.now c.args.medians.now c.requires.medians in
    let t = c.loop-height-test.true in
    omega arith

pub slice_bounds-context-end : goal.slice_bounds-context-end
slice_bounds-context-end c =
    let m = medians_long c.args.held.now c.args.branch.now c.args.medians.now c.requires.medians in
    let t = c.loop-height-test.true in
    sym (length-take-le c.loop-height.height c.args.medians.now (omega arith))

-- the block after those that were connected
module _ (params : Params) (triples : Triples) (hs : List KeptBlock) (br medians : List ℕ) (h : ℕ) (n : KeptBlock) (coins : Coins) (fault : Option Reason)
    (some : 1 ≤ h) (low : h < length br) (kept : get_or br (length br - 1 - h) 0 < length hs) (item : n ≡ get_or hs (get_or br (length br - 1 - h) 0) n)
    (by_height : ◌≡◌ {A = List ℕ} medians (reverse (medians_of (blocks_in hs br)))) (left : coins ≡ replay ledger (drop (length br - h) (blocks_in hs br)))
    (valid : trial_on (regtest params triples) (drop (length br - h) (blocks_in hs br)) ≡ Valid)
    (found : fault ≡ connect_fault (record { height = h; cutoff = get_or medians (h - 1) 0; medians = take h medians; rules = at params h }) coins n.block.txs triples) where
  abbrev bs : List Block
  bs = blocks_in hs br

  same : length (blocks_in hs br) ≡ length br
  same = long hs br

  own : n.block ≡ get_or (blocks_in hs br) (length (blocks_in hs br) - 1 - h) n.block
  own =
      let q = get_or br (length br - 1 - h) 0 in
      ap (λ (x : KeptBlock). x.block) (item ∙ get_or_default hs q n first_kept kept)
      ∙ sym (get_or-map (block_in hs) br (length br - 1 - h) 0 n.block (omega arith))
      ∙ ap (λ (k : ℕ). get_or (blocks_in hs br) (k - 1 - h) n.block) (sym same)

  cutoff : get_or medians (h - 1) 0 ≡ get_or (reverse (medians_of (blocks_in hs br))) (h - 1) 0
  cutoff = ap (λ (k : List ℕ). get_or k (h - 1) 0) by_height

  here : coins ≡ replay ledger (drop (length (blocks_in hs br) - h) (blocks_in hs br))
  here = left ∙ ap (λ (k : ℕ). replay ledger (drop (k - h) (blocks_in hs br))) (sym same)

  trial_here : trial_on (regtest params triples) (drop (length (blocks_in hs br) - h) (blocks_in hs br)) ≡ Valid
  trial_here = ap (λ (k : ℕ). trial_on (regtest params triples) (drop (k - h) (blocks_in hs br))) same ∙ valid

  trial_next : trial_on (regtest params triples) (drop (length (blocks_in hs br) - (h + 1)) (blocks_in hs br)) ≡ trial_after Valid fault
  trial_next =
      let e = same in
      next_trial params triples (blocks_in hs br) h some (omega arith) n.block own (get_or medians (h - 1) 0) (take h medians) cutoff (ap (take h) by_height) trial_here
      ∙ ap (λ (m : Coins). trial_after Valid (connect_fault (record { height = h; cutoff = get_or medians (h - 1) 0; medians = take h medians; rules = at params h }) m n.block.txs triples)) (sym here)
      ∙ ap (λ o. trial_after Valid o) (sym found)

  coins_next : replay ledger (drop (length (blocks_in hs br) - (h + 1)) (blocks_in hs br)) ≡ effect h coins n.block.txs
  coins_next =
      let e = same in
      next_replay params triples (blocks_in hs br) h some (omega arith) n.block own ∙ ap (λ (m : Coins). effect h m n.block.txs) (sym here)

  end_here : (reason : Reason) → fault ≡ Some reason → false ≡ is_valid (trial_on (regtest params triples) (blocks_in hs br))
  end_here reason e =
      let k = same in
      ends params triples (blocks_in hs br) h some (omega arith) n.block own reason (trial_next ∙ ap (λ o. trial_after Valid o) e)

  more : fault ≡ None → (new : Coins) → new ≡ effect h coins n.block.txs → record {
    coins : new ≡ replay ledger (drop (length br - (h + 1)) (blocks_in hs br));
    trial : trial_on (regtest params triples) (drop (length br - (h + 1)) (blocks_in hs br)) ≡ Valid;
  }
  more e new f = record {
    coins = f ∙ sym coins_next ∙ ap (λ (k : ℕ). replay ledger (drop (k - (h + 1)) (blocks_in hs br))) same;
    trial = ap (λ (k : ℕ). trial_on (regtest params triples) (drop (k - (h + 1)) (blocks_in hs br))) (sym same) ∙ trial_next ∙ ap (λ o. trial_after Valid o) e;
  }

pub returns-in-Some-clause-valid : goal.returns-in-Some-clause-valid
returns-in-Some-clause-valid c =
    let br = c.args.branch.now in
    let h = c.loop-height.height in
    let t = c.loop-height-test.true in
    end_here c.args.chain.now.params.now c.args.chain.now.table.now c.args.held.now br c.args.medians.now h (get_or c.args.held.now (get_or br (length br - 1 - h) 0) c.index-held-branch.result) c.loop-height.coins.coins c.in_ok-_reason.field-0
    c.loop-height.auto.height t (c.requires.alone.kept (length br - 1 - h) (omega arith)) (ap (λ (x : KeptBlock). get_or c.args.held.now (get_or br (length br - 1 - h) 0) x) c.index-held-branch.is) c.requires.medians c.loop-height.invariant.coins c.loop-height.invariant.trial c.in_ok-_reason.ensures.fault
    c.in-Some._reason c.in-Some.is

pub loop-height-preserved : goal.loop-height-preserved
loop-height-preserved c =
    let br = c.args.branch.now in
    let h = c.loop-height.height in
    let t = c.loop-height-test.true in
    more c.args.chain.now.params.now c.args.chain.now.table.now c.args.held.now br c.args.medians.now h (get_or c.args.held.now (get_or br (length br - 1 - h) 0) c.index-held-branch.result) c.loop-height.coins.coins c.in_ok-_reason.field-0
    c.loop-height.auto.height t (c.requires.alone.kept (length br - 1 - h) (omega arith)) (ap (λ (x : KeptBlock). get_or c.args.held.now (get_or br (length br - 1 - h) 0) x) c.index-held-branch.is) c.requires.medians c.loop-height.invariant.coins c.loop-height.invariant.trial c.in_ok-_reason.ensures.fault
    c.in_default.is c.connect_next.new.coins.coins (c.in_ok-_reason.ensures.coins c.in_default.is)

pub returns-clause-valid : goal.returns-clause-valid
returns-clause-valid c =
    let br = c.args.branch.now in
    let f = c.loop-height-test.false in
    let z : length br - c.loop-height.height ≡ 0 = omega arith in
    sym (ap (λ (k : ℕ). is_valid (trial_on (regtest c.args.chain.now.params.now c.args.chain.now.table.now) (drop k (blocks_in c.args.held.now br)))) (sym z) ∙ ap is_valid c.loop-height.invariant.trial)

pub returns-clause-coins : goal.returns-clause-coins
returns-clause-coins c = λ is.
    let br = c.args.branch.now in
    let f = c.loop-height-test.false in
    let z : length br - c.loop-height.height ≡ 0 = omega arith in
    c.loop-height.invariant.coins ∙ ap (λ (k : ℕ). replay ledger (drop k (blocks_in c.args.held.now br))) z
