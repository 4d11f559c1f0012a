-- The best of the places looked at so far, and of one more.
use Rattle.std.proofs.Common.{◌≡◌, ℕ, zero, suc, ◌+◌, ◌-◌, ◌<◌, Bool, true, false, cond, ◌&&◌, sym, refl, subst, inl, inr, arith}
use Rattle.std.proofs.lemmas.Bool.{cases_eq, and_parts, and_from}
use Rattle.tree.specs.State.{State, beats}
use Rattle.tree.specs.Sound.{IsBest}
use Rattle.tree.specs.laws.Sets.{clash}
use Rattle.tree.specs.laws.Ranks.{better_trans, better_or}

module _ {B : Type 0} (s : State B) (passes : ℕ → Bool) where
  pub best_stays : (n a : ℕ) → IsBest s passes n a → (passes (suc n) && beats s (suc n) a) ≡ false → IsBest s passes (suc n) a
  best_stays n a h f = record {
    kept = (let k = h.kept in omega arith);
    can = h.can;
    tops = λ b l e. elim (cases_eq b (suc n)) [
      | inl q ↦ elim (better_or s b a (let k = h.kept in omega arith)) [
        | inl w ↦ absurd (clash _ (and_from (passes (suc n)) (beats s (suc n) a) (subst (λ (z : ℕ). passes z ≡ true) q e) (subst (λ (z : ℕ). beats s z a ≡ true) q w)) f)
        | inr w ↦ inr w
      ]
      | inr q ↦ h.tops b (omega arith) e
    ];
  }

  pub best_moves : (n a : ℕ) → IsBest s passes n a → (passes (suc n) && beats s (suc n) a) ≡ true → IsBest s passes (suc n) (suc n)
  best_moves n a h f =
      let q = and_parts (passes (suc n)) (beats s (suc n) a) f in
      record {
        kept = omega arith;
        can = q.0;
        tops = λ b l e. elim (cases_eq b (suc n)) [
          | inl w ↦ inl w
          | inr w ↦ inr (elim (h.tops b (omega arith) e) [
            | inl v ↦ subst (λ (z : ℕ). beats s (suc n) z ≡ true) (sym v) q.1
            | inr v ↦ better_trans s (suc n) a b q.1 v
          ])
        ];
      }

  best-to : (n m a b : ℕ) → n ≡ m → a ≡ b → IsBest s passes n a → IsBest s passes m b
  best-to n m a b e f h = subst (λ (k : ℕ). IsBest s passes k b) e (subst (λ (k : ℕ). IsBest s passes n k) f h)

  -- one block more
  pub best_next : (place best next : ℕ) (t : Bool) → 0 < place → IsBest s passes (place - 1) best → (passes place && beats s place best) ≡ t → next ≡ cond t place best → IsBest s passes (place + 1 - 1) next
  best_next zero best next t z h e f = absurd (omega arith)
  best_next (suc n) best next true z h e f = best-to (suc n) (suc n + 1 - 1) (suc n) next (omega arith) (sym f) (best_moves n best (best-to (suc n - 1) n best best (omega arith) refl h) e)
  best_next (suc n) best next false z h e f = best-to (suc n) (suc n + 1 - 1) best next (omega arith) (sym f) (best_stays n best (best-to (suc n - 1) n best best (omega arith) refl h) e)

  -- genesis alone
  pub best_first : passes 0 ≡ true → IsBest s passes 0 0
  best_first h = record { kept = omega arith; can = h; tops = λ b l e. inl (omega arith) }
