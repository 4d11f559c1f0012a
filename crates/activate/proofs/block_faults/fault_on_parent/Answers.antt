use Rattle.std.proofs.Common.{◌≡◌, ℕ, ◌+◌, ◌≤◌, List, length, arith, ap, ◌∙◌}
use Rattle.std.proofs.lemmas.List.{length-map}
use Rattle.txn.specs.First.{first_broken}
use Rattle.rules.specs.Params.{at}
use Rattle.rules.specs.Context.{context_rules}
use Rattle.block.specs.declared.block.Block.{Block}
use Rattle.tree.specs.Branches.{Blocks, branch, height, block_at, blocks_at}
use Rattle.tree.specs.Names.{names}
use Rattle.tree.specs.laws.Branches.{branch_head}
use Rattle.tree.specs.laws.Parents.{height-place}
use Rattle.activate.proofs.block_faults.fault_on_parent.Goals as goal

-- a block is as high as its branch is long, without it
long : (t : Blocks Block) (p : ℕ) → p ≤ length t → height t p + 1 ≡ length (blocks_at names t (branch t p))
unfolding height
long t p h =
    let e = ap (λ (l : List ℕ). length l) (branch_head t p h) in
    let m = length-map (branch t p) (block_at names t) in
    omega arith

pub overflow_add-height : goal.overflow_add-height
overflow_add-height c =
    let l = height-place c.args.tree.now.blocks c.args.parent c.args.parent (omega arith) c.requires.kept in
    let e = c.height.ensures.value in
    let r = c.requires.room in
    let k = c.requires.kept in
    omega arith

pub overflow_cast-height : goal.overflow_cast-height
overflow_cast-height c =
    let l = height-place c.args.tree.now.blocks c.args.parent c.args.parent (omega arith) c.requires.kept in
    let e = c.height.ensures.value in
    let r = c.requires.room in
    let k = c.requires.kept in
    omega arith

pub returns : goal.returns
returns c triples =
    let t = c.args.tree.now.blocks in
    let b = c.args.block.now in
    let rules = λ (n m : ℕ). first_broken (context_rules (at c.args.params.now n) b n m c.args.now) in
    let high : c.height.result + 1 ≡ length (blocks_at names t (branch t c.args.parent)) = ap (λ (k : ℕ). k + 1) c.height.ensures.value ∙ long t c.args.parent c.requires.kept in
    c.context_fault.ensures
    ∙ ap (λ (k : ℕ). rules k c.median.result) high
    ∙ ap (λ (k : ℕ). rules (length (blocks_at names t (branch t c.args.parent))) k) c.median.ensures
