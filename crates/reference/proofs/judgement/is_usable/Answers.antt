use Rattle.std.proofs.Common.{◌≡◌, ℕ, Bool, get_or, not, List, length, ap, ◌∙◌, arith}
use Rattle.std.specs.List.{list_all}
use Rattle.tree.specs.Branches.{branch}
use Rattle.reference.specs.declared.kept_block.KeptBlock.{KeptBlock}
use Rattle.reference.specs.inside.Replay.{blocks_of, is_flagged}
use Rattle.reference.proofs.States.{branch_within, branch_usable}
use Rattle.reference.proofs.judgement.is_usable.Goals as goal

pub has_none-requires : goal.has_none-requires
has_none-requires c = λ i h.
    let e : ◌≡◌ {A = List ℕ} c.deref-3.result.now (branch (blocks_of c.args.old.now.held.items) c.args.place) =
    c.deref-3.ensures.value ∙ c.in_ok-branch.ensures ∙ ap (λ (k : List KeptBlock). branch (blocks_of k) c.args.place) c.deref.ensures.value in
    let n = ap (λ (k : List ℕ). length k) e in
    let x = ap (λ (k : List ℕ). get_or k i 0) e in
    let f = ap (λ (k : List Bool). length k) c.deref-2.ensures.value in
    let b = c.requires.right.2.bad in
    let w = branch_within c.requires.right.0 c.requires.right.1 c.args.old.now c.requires.right.2 c.args.place c.requires.kept i (omega arith) in
    omega arith

pub returns : goal.returns
returns c =
    let e : ◌≡◌ {A = List ℕ} c.deref-3.result.now (branch (blocks_of c.args.old.now.held.items) c.args.place) =
    c.deref-3.ensures.value ∙ c.in_ok-branch.ensures ∙ ap (λ (k : List KeptBlock). branch (blocks_of k) c.args.place) c.deref.ensures.value in
    c.has_none.ensures ∙ ap (λ (k : List ℕ). list_all (λ x. not (is_flagged c.deref-2.result.now x)) k) e
    ∙ ap (λ (k : List Bool). list_all (λ x. not (is_flagged k x)) (branch (blocks_of c.args.old.now.held.items) c.args.place)) c.deref-2.ensures.value
    ∙ branch_usable c.requires.right.0 c.requires.right.1 c.args.old.now c.requires.right.2 c.args.place c.requires.kept
