use Rattle.std.proofs.Common.{ℕ, List, [], ◌∷◌, ◌++◌, sym, ap, ◌∙◌, arith}
use Rattle.tree.specs.Branches.{branch}
use Rattle.reference.specs.inside.Replay.{blocks_of}
use Rattle.tree.specs.laws.Branches.{branch-genesis}
use Rattle.reference.proofs.KeptBlocks.{parent_before, walk_on}
use Rattle.reference.proofs.kept_block.branch_of.Goals as goal

pub down-init : goal.down-init
down-init c = (c.requires.kept, ap (λ (l : List ℕ). l ++ branch (blocks_of c.args.held.now) c.args.place) c.new-places.ensures.items)

pub returns-then-next-eq0 : goal.returns-then-next-eq0
returns-then-next-eq0 c =
    let t = blocks_of c.args.held.now in
    c.in_ok-push.ensures.items ∙ ap (λ (q : ℕ). c.down.places.items ++ (q ∷ [])) c.if-next-eq0.true
    ∙ ap (λ (l : List ℕ). c.down.places.items ++ l) (sym (branch-genesis t))
    ∙ ap (λ (q : ℕ). c.down.places.items ++ branch t q) (sym c.if-next-eq0.true) ∙ c.down.invariant.1

pub down-smaller : goal.down-smaller
down-smaller c =
    let z = c.if-next-eq0.false in
    let b = parent_before c.args.held.now c.down.next c.index-held-next.result c.requires.held (omega arith) c.down.invariant.0 c.index-held-next.is in
    let l = b.1 in
    let e = ap (λ n. n.parent) c.index-held-next.is in
    omega arith

pub down-preserved : goal.down-preserved
down-preserved c =
    let ns = c.args.held.now in
    let n = c.index-held-next.result in
    let z = c.if-next-eq0.false in
    let k = c.down.invariant.0 in
    let b = parent_before ns c.down.next n c.requires.held (omega arith) k c.index-held-next.is in
    let l = b.1 in
    let e = ap (λ x. x.parent) c.index-held-next.is in (
      omega arith,
      ap (λ (q : ℕ). c.push.new.self.items ++ branch (blocks_of ns) q) (sym e)
          ∙ walk_on ns c.down.places.items c.push.new.self.items c.down.next n c.requires.held (omega arith) k c.index-held-next.is c.in_ok-push.ensures.items
          ∙ c.down.invariant.1,
    )
