use Rattle.std.proofs.Common.{◌≡◌, ℕ, ◌-◌, true, List, get_or, length, reverse, sym, ap, ◌∙◌, arith}
use Rattle.std.proofs.lemmas.List.{length-map, length-reverse, get_or_read}
use Rattle.coins.specs.Coins.{Coins}
use Rattle.rules.specs.Params.{at}
use Rattle.connect.specs.computed.Scripts.{connect_fault}
use Rattle.model.specs.Regtest.{medians_of, regtest}
use Rattle.model.specs.laws.Medians.{length-medians}
use Rattle.reference.specs.declared.branch_replay.Trial.TheVariants.{Valid}
use Rattle.reference.specs.declared.kept_block.KeptBlock.{KeptBlock}
use Rattle.reference.specs.inside.Replay.{block_in, blocks_in, is_valid, trial_after, trial_on}
use Rattle.reference.proofs.BranchReplay.{above_below, above_valid}
use Rattle.reference.proofs.branch_replay.replay.Goals as goal

pub returns-then-not-branch : goal.returns-then-not-branch
returns-then-not-branch c =
    above_below c.args.chain.now.params.now c.args.chain.now.table.now c.args.block.now (blocks_in c.args.held.now c.args.branch.now)
    (sym c.in_ok-connect_all.ensures.valid ∙ c.if-not-branch.true)

medians_long : (held : List KeptBlock) (branch medians : List ℕ) → ◌≡◌ {A = List ℕ} medians (reverse (medians_of (blocks_in held branch))) → length medians ≡ length branch
medians_long held branch medians e =
    ap (λ (k : List ℕ). length k) e ∙ length-reverse (medians_of (blocks_in held branch)) ∙ length-medians (blocks_in held branch) ∙ length-map branch (block_in held)

pub index-requires : goal.index-requires
index-requires c =
    let m = medians_long c.args.held.now c.args.branch.now c.in_ok-medians.medians.items c.in_ok-medians.ensures in
    let s = c.requires.some in
    let v = c.in_ok-medians.medians.ok in
    omega arith

pub returns : goal.returns
returns c =
    let hs = c.args.held.now in
    let br = c.args.branch.now in
    let bs = blocks_in hs br in
    let p = c.args.chain.now.params.now in
    let t = c.args.chain.now.table.now in
    let b = c.args.block.now in
    let s = c.requires.some in
    let l : length bs ≡ length br = length-map br (block_in hs) in
    let ml = medians_long hs br c.in_ok-medians.medians.items c.in_ok-medians.ensures in
    let m : ◌≡◌ {A = List ℕ} c.deref-2.result.now (reverse (medians_of bs)) = c.deref-2.ensures.value ∙ c.in_ok-medians.ensures in
    let v : is_valid (trial_on (regtest p t) bs) ≡ true = sym c.in_ok-connect_all.ensures.valid ∙ c.if-not-branch.false in
    let cut : c.index.result.now ≡ get_or (reverse (medians_of bs)) (length bs - 1) 0 =
    get_or_read c.in_ok-medians.medians.items (length br - 1) c.index.result.now (omega arith) c.index.ensures 0
    ∙ ap (λ (k : List ℕ). get_or k (length br - 1) 0) c.in_ok-medians.ensures ∙ ap (λ (n : ℕ). get_or (reverse (medians_of bs)) (n - 1) 0) (sym l) in
    c.trial_of.ensures
    ∙ ap (λ o. trial_after Valid o) c.in_ok-fault.ensures.fault
    ∙ ap (λ (n : ℕ). trial_after Valid (connect_fault (record { height = n; cutoff = c.index.result.now; medians = c.deref-2.result.now; rules = at p n }) c.connect_all.new.coins.coins b.txs t)) (sym l)
    ∙ ap (λ (k : Coins). trial_after Valid (connect_fault (record { height = length bs; cutoff = c.index.result.now; medians = c.deref-2.result.now; rules = at p (length bs) }) k b.txs t)) (c.in_ok-connect_all.ensures.coins c.if-not-branch.false)
    ∙ above_valid p t b bs (omega arith) v c.index.result.now c.deref-2.result.now cut m
