-- What a new block changes among the leaves.
use Rattle.std.proofs.Common.{◌≡◌, ℕ, suc, ◌<◌, ◌≤◌, Bool, true, false, cond, not, ◌||◌, ◌&&◌, eqb, ltb, List, [], ◌∷◌, length, sym, refl, ap, ◌∙◌, inl, inr, arith}
use Rattle.std.specs.Prelude.{nat_eq}
use Rattle.std.proofs.lemmas.Bool.{cases_eq, cases_lt, eq-eqb, ne_eqb, lt-ltb, le-ltb}
use Rattle.std.specs.List.{list_any, IsDistinct}
use Rattle.tree.specs.Branches.{Kept, Blocks}
use Rattle.tree.specs.inside.Leaves.{AreInOrder, AreLeaves, is_leaf}

and_false : (b : Bool) → (b && false) ≡ false
and_false true = refl
and_false false = refl

-- below one more, but not that one
below_more : (p n : ℕ) → (p ≡ n → ⊥) → ltb p n ≡ ltb p (suc n)
below_more p n w =
    elim (cases_lt p n) [
      | inl h ↦ lt-ltb p n h ∙ sym (lt-ltb p (suc n) (omega arith))
      | inr h ↦ le-ltb p n h ∙ sym (le-ltb p (suc n) (above h w))
    ]
  where
    above : {p n : ℕ} → n ≤ p → (p ≡ n → ⊥) → suc n ≤ p
    above {p} {n} h w = elim (cases_lt n p) [ inl l ↦ omega arith | inr l ↦ absurd (w (omega arith)) ]

module _ {B : Type 0} where
  -- no block stands on one that isn't kept
  pub leaf_above : (t : Blocks B) (p : ℕ) → AreInOrder t → length t < p → is_leaf t p ≡ true
  leaf_above [] p o h = refl
  leaf_above (k ∷ older) p o h =
      let l = o.0 in
      ap (λ b. not (b || list_any (λ j. eqb j.parent p) older)) (ne_eqb k.parent p (omega arith)) ∙ leaf_above older p o.1 (omega arith)

  module _ (k : Kept B) (older : Blocks B) (p : ℕ) where
    pub leaf_same : (k.parent ≡ p → ⊥) → is_leaf (k ∷ older) p ≡ is_leaf older p
    leaf_same n = ap (λ b. not (b || list_any (λ j. eqb j.parent p) older)) (ne_eqb k.parent p n)

    leaf_lost : k.parent ≡ p → is_leaf (k ∷ older) p ≡ false
    leaf_lost e = ap (λ b. not (b || list_any (λ j. eqb j.parent p) older)) (eq-eqb k.parent p e)

  -- it is one, and its parent is none any more
  pub leaves_grown : (k : Kept B) (older : Blocks B) (old new : List ℕ) → AreInOrder (k ∷ older) → AreLeaves older old → IsDistinct nat_eq new
      → ((p : ℕ) → list_any (nat_eq p) new ≡ cond (eqb (suc (length older)) p) true (cond (eqb k.parent p) false (list_any (nat_eq p) old))) → AreLeaves (k ∷ older) new
  leaves_grown k older old new o are once f = record { once = once; all = λ p. f p ∙ told p }
    where
      n : ℕ
      n = suc (length older)

      told : (p : ℕ) → cond (eqb (suc (length older)) p) true (cond (eqb k.parent p) false (list_any (nat_eq p) old)) ≡ (ltb p (suc (suc (length older))) && is_leaf (k ∷ older) p)
      told p =
          elim (cases_eq p (suc (length older))) [
            | inl w ↦
                let a = o.0 in
                ap (λ b. cond b true (cond (eqb k.parent p) false (list_any (nat_eq p) old))) (eq-eqb (suc (length older)) p (sym w))
                ∙ sym (ap (λ b. b && is_leaf (k ∷ older) p) (lt-ltb p (suc (suc (length older))) (omega arith)) ∙ leaf_same k older p (omega arith) ∙ leaf_above older p o.1 (omega arith))
            | inr w ↦
                ap (λ b. cond b true (cond (eqb k.parent p) false (list_any (nat_eq p) old))) (ne_eqb (suc (length older)) p (λ e. w (sym e)))
                ∙ elim (cases_eq k.parent p) [
                  | inl v ↦
                      ap (λ b. cond b false (list_any (nat_eq p) old)) (eq-eqb k.parent p v)
                      ∙ sym (ap (λ b. ltb p (suc (suc (length older))) && b) (leaf_lost k older p v) ∙ and_false (ltb p (suc (suc (length older)))))
                  | inr v ↦
                      ap (λ b. cond b false (list_any (nat_eq p) old)) (ne_eqb k.parent p v) ∙ are.all p
                      ∙ ap (λ b. b && is_leaf older p) (below_more p (suc (length older)) w) ∙ ap (λ b. ltb p (suc (suc (length older))) && b) (sym (leaf_same k older p v))
                ]
          ]

  -- a list of the same places, each once
  pub leaves_same : (t : Blocks B) (old new : List ℕ) → AreLeaves t old → IsDistinct nat_eq new → ((p : ℕ) → list_any (nat_eq p) new ≡ list_any (nat_eq p) old) → AreLeaves t new
  leaves_same t old new are once f = record { once = once; all = λ p. f p ∙ are.all p }
