use Rattle.std.proofs.Common.{◌≡◌, ℕ, zero, suc, ◌≤◌, true, false, ◌&&◌, cond, eqb, ltb, List, [], ◌∷◌, ◌++◌, Option, Some, refl, sym, ap, ◌∙◌, subst, inl, inr, arith}
use Rattle.std.proofs.lemmas.Bool.{cases_eq, eq-eqb, ne_eqb, lt-ltb, le-ltb}
use Rattle.std.specs.List.{list_any}
use Rattle.std.specs.Prelude.{nat_eq}
use Rattle.std.specs.Map.{lookup}
use Rattle.hash.specs.declared.id.Id.{Id}
use Rattle.tree.specs.declared.block_index.BlockIndex.{BlockIndex}
use Rattle.tree.specs.declared.block_index.Mark.{Mark}
use Rattle.hash.specs.Id.{same_id}
use Rattle.tree.specs.Names.{names}
use Rattle.tree.specs.Nodes.{state_of}
use Rattle.tree.specs.inside.Nodes.{IsRight, first_node, first_mark}
use Rattle.tree.proofs.GenesisTree.{opened, right_opened}
use Rattle.tree.proofs.tree.Tree.new.Goals as goal

pub invariant_of-result : goal.invariant_of-result
invariant_of-result c =
    let ids = c.insert.new.self.entries in
    let leaves = c.insert-2.new.self.keys in
    let ns : ◌≡◌ {A = List BlockIndex} c.push.new.self.items (first_node ∷ []) = c.in_ok-push.ensures.items ∙ ap (λ (l : List BlockIndex). l ++ c.genesis_node.result ∷ []) c.new-nodes.ensures.items ∙ ap (λ (n : BlockIndex). n ∷ []) c.genesis_node.ensures in
    let ms : ◌≡◌ {A = List Mark} c.push-2.new.self.items (first_mark ∷ []) = c.in_ok-push-2.ensures.items ∙ ap (λ (l : List Mark). l ++ first_mark ∷ []) c.new-marks.ensures.items in
    subst (λ (l : List BlockIndex). IsRight l c.push-2.new.self.items c.new.result.items ids leaves) (sym ns)
    (subst (λ (l : List Mark). IsRight (first_node ∷ []) l c.new.result.items ids leaves) (sym ms)
    (subst (λ (l : List ℕ). IsRight (first_node ∷ []) (first_mark ∷ []) l ids leaves) (sym c.new.ensures.items)
    (right_opened ids leaves
    (λ i. c.in_ok-insert.ensures.updates.0 i ∙ ap (λ (es : List (Id × ℕ)). cond {A = Option ℕ} (same_id names.genesis_id i) (Some 0) (lookup (same_id i) es)) c.new-ids.ensures.empty)
    (record { once = c.insert-2.ensures.unique; all = λ p. c.in_ok-insert-2.ensures.updates.0 p ∙ ap (λ (l : List ℕ). cond (eqb 0 p) true (list_any (nat_eq p) l)) c.new-leaves.ensures.empty ∙ alone p }))))
  where
    alone : (p : ℕ) → cond (eqb 0 p) true false ≡ (ltb p 1 && true)
    alone p = elim (cases_eq 0 p) [
      | inl e ↦ ap (λ b. cond b true false) (eq-eqb 0 p e) ∙ sym (ap (λ b. b && true) (lt-ltb p 1 (omega arith)))
      | inr e ↦ ap (λ b. cond b true false) (ne_eqb 0 p e) ∙ sym (ap (λ b. b && true) (le-ltb p 1 (some p e)))
    ]
      where
        some : (p : ℕ) → (0 ≡ p → ⊥) → 1 ≤ p
        some zero e = absurd (e refl)
        some (suc p) e = omega arith

pub returns : goal.returns
returns c =
    let ns : ◌≡◌ {A = List BlockIndex} c.push.new.self.items (first_node ∷ []) = c.in_ok-push.ensures.items ∙ ap (λ (l : List BlockIndex). l ++ c.genesis_node.result ∷ []) c.new-nodes.ensures.items ∙ ap (λ (n : BlockIndex). n ∷ []) c.genesis_node.ensures in
    let ms : ◌≡◌ {A = List Mark} c.push-2.new.self.items (first_mark ∷ []) = c.in_ok-push-2.ensures.items ∙ ap (λ (l : List Mark). l ++ first_mark ∷ []) c.new-marks.ensures.items in
    ap (λ (l : List BlockIndex). state_of l c.push-2.new.self.items c.new.result.items) ns
    ∙ ap (λ (l : List Mark). state_of (first_node ∷ []) l c.new.result.items) ms
    ∙ ap (λ (l : List ℕ). state_of (first_node ∷ []) (first_mark ∷ []) l) c.new.ensures.items
    ∙ opened
