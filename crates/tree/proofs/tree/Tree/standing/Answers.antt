use Rattle.std.proofs.Common.{ℕ, ap, ◌∙◌, arith}
use Rattle.tree.specs.declared.rank.Standing.{Standing}
use Rattle.tree.specs.Branches.{height}
use Rattle.tree.proofs.Views.{kept, node_at, rank_at}
use Rattle.tree.proofs.tree.Tree.standing.Goals as goal

pub index-requires : goal.index-requires
index-requires c = let k = kept c.self.invariant c.self.view_is in let r = c.requires in omega arith

pub index-requires-2 : goal.index-requires-2
index-requires-2 c = let k = kept c.self.invariant c.self.view_is in let r = c.requires in let l = c.self.invariant.same in omega arith

unfoldable standing : ℕ → ℕ → ℕ → Standing
standing h r p = record { height = h; rank = r; place = p }

pub returns : goal.returns
unfolding standing
returns c =
    let p = c.args.place in
    ap (λ (h : ℕ). standing h c.index-2.result.now.rank p) (node_at c.self.invariant c.self.view_is p c.requires c.index.result.now c.index.ensures).height
    ∙ ap (λ (r : ℕ). standing (height c.args.self.now.blocks p) r p) (rank_at c.self.invariant c.self.view_is p c.requires c.index-2.result.now c.index-2.ensures)
