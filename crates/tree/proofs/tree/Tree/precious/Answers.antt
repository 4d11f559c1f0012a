use Rattle.std.proofs.Common.{◌≡◌, ℕ, suc, ◌≤◌, ◌||◌, List, [], ◌∷◌, ◌++◌, length, reverse, get_or, sym, refl, ap, ◌∙◌, inl, inr, arith}
use Rattle.std.proofs.Math.ListN.{set}
use Rattle.std.proofs.lemmas.Bool.{cases_eq, ne_eqb}
use Rattle.std.proofs.lemmas.List.{length-reverse, reverse-append}
use Rattle.hash.specs.declared.id.Id.{Id}
use Rattle.block.specs.declared.block.Block.{Block}
use Rattle.tree.specs.declared.block_index.BlockIndex.{BlockIndex}
use Rattle.tree.specs.declared.block_index.Mark.{Mark}
use Rattle.tree.specs.Branches.{has}
use Rattle.tree.specs.State.{State, rank_in, with_call}
use Rattle.tree.specs.Nodes.{mark_at, state_of}
use Rattle.tree.specs.inside.Nodes.{IsRight}
use Rattle.tree.specs.laws.Ranks.{rank_last, rank_other}
use Rattle.tree.proofs.Views.{kept}
use Rattle.tree.proofs.Changes.{set_here, set_there, precious-view, right-rank}
use Rattle.tree.proofs.MarkChanges.{has_mark, right_set, state_ranked}
use Rattle.tree.proofs.tree.Tree.precious.Goals as goal

-- the calls with one more
called : (cs ds : List ℕ) (p : ℕ) → ds ≡ cs ++ p ∷ [] → ◌≡◌ {A = List ℕ} (reverse ds) (p ∷ reverse cs)
called cs ds p e = ap reverse e ∙ reverse-append cs (p ∷ [])

module _ {ns : List BlockIndex} {ms : List Mark} {cs : List ℕ} {is : List (Id × ℕ)} {ls : List ℕ} (right : IsRight ns ms cs is ls) {s : State Block} (view : state_of ns ms cs ≡ s)
    (p : ℕ) (stands : p ≤ length s.blocks) (m : Mark) (e : m ≡ get_or ms p m) (ds : List ℕ) (last : ds ≡ cs ++ p ∷ []) (rank : ℕ) where
  -- the tree with the rank of one more call is right
  right_called : rank ≡ length ds → IsRight ns (set ms p (record m { rank = rank })) ds is ls
  right_called counted =
      let n = record m { rank = rank } in
      let h = has_mark right view p stands in
      let k = kept right view in
      let more = called cs ds p last in
      let long : rank ≡ suc (length (reverse cs)) = let b = ap (λ (x : List ℕ). length x) more in let d = length-reverse ds in omega arith in
      right_set right p m n h e ds refl refl
      (λ q g. elim (cases_eq q p) [
        | inl w ↦ ap (λ (x : ℕ). (mark_at (set ms p n) x).rank) w ∙ ap (λ x. x.rank) (set_here ms p m n h e) ∙ long ∙ sym (rank_last (reverse cs) p)
            ∙ sym (ap (λ (x : List ℕ). rank_in x p) more) ∙ sym (ap (rank_in (reverse ds)) w)
        | inr w ↦ ap (λ x. x.rank) (set_there ms p m n h e q w) ∙ right-rank right q g ∙ sym (rank_other (reverse cs) p q (λ z. w (sym z)))
            ∙ sym (ap (λ (x : List ℕ). rank_in x q) more)
      ])
      (λ q g. ap (λ (x : List ℕ). has x q) more ∙ ap (λ b. b || has (reverse cs) q) (ne_eqb p q (omega arith)) ∙ right.are_calls q g)

  -- and the block is called precious in it
  state_called : state_of ns (set ms p (record m { rank = rank })) ds ≡ with_call s p
  state_called =
      state_ranked right p m (record m { rank = rank }) (has_mark right view p stands) e view refl refl ds (called cs ds p last ∙ ap (λ (x : List ℕ). p ∷ x) (precious-view ns ms cs view))

pub index_mut-requires : goal.index_mut-requires
index_mut-requires g c = let h = has_mark c.self.invariant c.self.view_is c.args.place c.requires in omega arith

pub invariant_of-self-2 : goal.invariant_of-self-2
invariant_of-self-2 g c =
    right_called c.self.invariant c.self.view_is c.args.place c.requires c.index_mut.result.now c.index_mut.ensures.value c.push_reserved.new.self.items (c.push_reserved.ensures.items ∙ ap (λ (l : List ℕ). l ++ c.args.place ∷ []) c.in_ok-reserve.ensures.items) c.len.result
    (let a = c.len.ensures in omega arith)

pub returns-clause-ok : goal.returns-clause-ok
returns-clause-ok g c =
    state_called c.self.invariant c.self.view_is c.args.place c.requires c.index_mut.result.now c.index_mut.ensures.value c.push_reserved.new.self.items (c.push_reserved.ensures.items ∙ ap (λ (l : List ℕ). l ++ c.args.place ∷ []) c.in_ok-reserve.ensures.items) c.len.result
