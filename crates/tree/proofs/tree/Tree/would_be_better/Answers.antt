use Rattle.std.proofs.Common.{◌≡◌, ℕ, suc, ◌<◌, ◌≤◌, Bool, true, false, leb, length, ◌∷◌, sym, refl, ap, ◌∙◌, inl, inr, arith}
use Rattle.std.proofs.lemmas.Bool.{false_from_ne_true, leb-true, leb-false}
use Rattle.block.specs.declared.block.Block.{Block}
use Rattle.tree.specs.Branches.{Kept, has, height}
use Rattle.tree.specs.Nodes.{state_of}
use Rattle.tree.specs.State.{State, beats, rank, with_block}
use Rattle.tree.specs.laws.Branches.{height_here, height_there}
use Rattle.tree.specs.laws.Ranks.{better-above, better_from, rank-none}
use Rattle.tree.proofs.Views.{kept, node_at}
use Rattle.tree.proofs.tree.Tree.would_be_better.Goals as goal

-- a new block comes last, and wasn't called yet: it is better than another one only where it is higher
module _ (s : State Block) (b : Block) (p q : ℕ) (parent : p ≤ length s.blocks) (other : q ≤ length s.blocks) (none : has s.precious (suc (length s.blocks)) ≡ false) where
  abbrev k : Kept Block
  k = record { block = b; parent = p }

  abbrev n : ℕ
  n = suc (length s.blocks)

  lowest : rank (with_block s b p) n ≡ 0
  unfolding rank
  lowest = rank-none s.precious n none

  higher : height s.blocks q ≤ height s.blocks p → beats (with_block s b p) n q ≡ true
  higher le =
      let one = height_here k s.blocks parent in
      let two = height_there k s.blocks q other in
      better_from (with_block s b p) n q (inl (omega arith))

  lower : height s.blocks p < height s.blocks q → beats (with_block s b p) n q ≡ false
  lower less = false_from_ne_true (beats (with_block s b p) n q) (λ above.
      let one = height_here k s.blocks parent in
      let two = height_there k s.blocks q other in
      let last = lowest in
      elim (better-above (with_block s b p) n q above) [
        | inl w ↦ omega arith
        | inr w ↦ elim w.1 [ inl v ↦ omega arith | inr v ↦ let r = v.1 in omega arith ]
      ])

  pub better_new : (h g : ℕ) → h ≡ height s.blocks q → g ≡ height s.blocks p → leb h g ≡ beats (with_block s b p) n q
  better_new h g e f = either (leb h g) refl
    where
      either : (v : Bool) → leb h g ≡ v → leb h g ≡ beats (with_block s b p) n q
      either true w = let le = leb-true h g w in w ∙ sym (higher (omega arith))
      either false w = let less = leb-false h g w in w ∙ sym (lower (omega arith))

pub index-requires : goal.index-requires
index-requires c = let k = kept c.self.invariant c.self.view_is in let r = c.requires in omega arith

pub index-requires-2 : goal.index-requires-2
index-requires-2 c = let k = kept c.self.invariant c.self.view_is in let r = c.requires in omega arith

pub returns : goal.returns
unfolding state_of
returns c b =
    let k = kept c.self.invariant c.self.view_is in
    let s = c.args.self.now in
    better_new s b c.args.parent c.args.other c.requires.parent c.requires.other
    (ap (λ (x : State Block). has x.precious (suc (length s.blocks))) (sym c.self.view_is) ∙ c.self.invariant.are_calls (suc (length s.blocks)) (omega arith))
    _ _
    (node_at c.self.invariant c.self.view_is c.args.other c.requires.other c.index.result.now c.index.ensures).height
    (node_at c.self.invariant c.self.view_is c.args.parent c.requires.parent c.index-2.result.now c.index-2.ensures).height
