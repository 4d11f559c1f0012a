-- What is read is spelled.
use Rattle.std.proofs.Common.{◌≡◌, Bool, inl, inr, ℕ, List, [], ◌∷◌, ◌++◌, Some, None, Ok, Err, Result, refl, sym, ap, subst, ◌∙◌}
use Rattle.std.proofs.lemmas.List.{append-nil}
use Rattle.wire.specs.declared.fault.WireFault.{WireFault}
use Rattle.wire.specs.Grammar.{Grammar, IsBytes}
use Rattle.wire.specs.computed.Reader.{Part}
use Rattle.wire.specs.laws.Reader.{Decides}
use Rattle.block.specs.declared.block.Block.{Block}
use Rattle.block.specs.Grammar.{block_by}
use Rattle.block.specs.computed.Reader.{block_by_at}
use Rattle.block.specs.laws.Reader.{block_by_decides}
use Rattle.block.specs.BlockOfBytes.{unless_more, whole_block, block_of_bytes_by}

ok_is : {A : Type 0} (x y : A) → ◌≡◌ {A = Result A WireFault} (Ok x) (Ok y) → x ≡ y
ok_is x y h = cc

-- what a part that decides a grammar reads is lawful, and its spelling stands at the front
pub read-spelled : {A : Type 0} (g : Grammar A) (part : Part A) → Decides g part → (bytes rest : List ℕ) (x : A) → IsBytes bytes → part bytes ≡ Ok (x, rest) → g.Lawful x × (bytes ≡ g.spell x ++ rest)
read-spelled {A} g part d bytes rest x fits read = elim (d.total bytes fits) [
  | inl f ↦
      let again : part bytes ≡ Ok (f.value, f.rest) = ap part f.parts ∙ d.again f.value f.rest f.lawful in
      let same : ◌≡◌ {A = Result (A × List ℕ) WireFault} (Ok (f.value, f.rest)) (Ok (x, rest)) = sym again ∙ read in
      let pair = ok_is (f.value, f.rest) (x, rest) same in
      let value : f.value ≡ x = ap (λ p. p.0) pair in
      let left : f.rest ≡ rest = ap (λ p. p.1) pair in
      (subst g.Lawful value f.lawful, f.parts ∙ ap (λ (y : A). g.spell y ++ f.rest) value ∙ ap (λ (l : List ℕ). g.spell x ++ l) left)
  | inr r ↦
      let both : ◌≡◌ {A = Result (A × List ℕ) WireFault} (Err r.fault) (Ok (x, rest)) = sym (d.refuses r.fault bytes r.faulty) ∙ read in absurd cc
]

alone : (x b : Block) (rest : List ℕ) → unless_more x rest ≡ Some b → (x ≡ b) × (rest ≡ [])
alone x b [] h = (cc, refl)
alone x b (y ∷ rest) h = absurd cc

pub decoded-is-spelled : (by : Bool) (bytes : List ℕ) (b : Block) → IsBytes bytes → block_of_bytes_by by bytes ≡ Some b → (block_by by).Lawful b × (bytes ≡ (block_by by).spell b)
decoded-is-spelled by bytes b fits h = from (block_by_at by bytes) refl
  where
    from : (read : Result (Block × List ℕ) WireFault) → block_by_at by bytes ≡ read → (block_by by).Lawful b × (bytes ≡ (block_by by).spell b)
    from (Ok x) e =
        let is = alone x.0 b x.1 (sym (ap whole_block e) ∙ h) in
        let front = read-spelled (block_by by) (block_by_at by) (block_by_decides by) bytes x.1 x.0 fits e in
        (subst (block_by by).Lawful is.0 front.0, front.1 ∙ ap (λ (y : Block). (block_by by).spell y ++ x.1) is.0 ∙ ap (λ (l : List ℕ). (block_by by).spell b ++ l) is.1 ∙ append-nil ((block_by by).spell b))
    from (Err fault) e = let none : ◌≡◌ {A = _} None (Some b) = sym (ap whole_block e) ∙ h in absurd cc
