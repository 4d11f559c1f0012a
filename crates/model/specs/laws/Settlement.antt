-- Settling in other words: of each candidate's branch, the blocks before the first that doesn't connect become
-- seen (all, if none), and that first one becomes marked.
use Rattle.std.proofs.Common.{◌≡◌, ℕ, ◌≤◌, true, false, eqb, length, sym, ◌∙◌, subst, inl, inr, arith}
use Rattle.std.proofs.lemmas.Bool.{eqb-true, eq-eqb, cases_Bool, and_parts, and_from, or_cases, or_right}
use Rattle.tree.specs.Branches.{Blocks, has, before, on}
use Rattle.tree.specs.State.{State}
use Rattle.tree.specs.laws.Sets.{same_tests}
use Rattle.tree.specs.laws.Branches.{on-bounds, on-itself, on_chain, on_trans, on-before, before-below}
use Rattle.model.specs.Rules.{Rules}
use Rattle.model.specs.Valid.{branch_connects, first_to_fail}
use Rattle.model.specs.Settle.{on_candidate, becomes_seen, becomes_bad}
use Rattle.model.specs.Try.{fails_on, passes_on}
use Rattle.model.specs.Faults.{IsFirstFault, Passes, OfCandidate}
use Rattle.model.specs.laws.Candidates.{below_first, same_first, first_failure, valid_from, valid_below, never_fails, on_candidate_gives, on_candidate_from}

module _ {B I : Type 0} (r : Rules B I) (t : Blocks B) (c : ℕ) where
  -- of a valid branch all are seen
  pub sees-all : branch_connects r t c ≡ true → (x : ℕ) → passes_on r t c x ≡ on t c x
  unfolding passes_on
  sees-all v x = same_tests _ _ (λ h. (and_parts (branch_connects r t x) (on t c x) h).1) (λ o. and_from _ _ (valid_below r t c x v o) o)

  -- and none is marked
  pub marks-none : branch_connects r t c ≡ true → (x : ℕ) → fails_on r t c x ≡ false
  unfolding fails_on
  marks-none v x = Rattle.std.proofs.lemmas.Bool.false_from_ne_true _ (λ h. let b = and_parts (first_to_fail r t x) (on t c x) h in never_fails r t c x v b.1 b.0)

  module _ (f : ℕ) (is : IsFirstFault r t c f) where
    f_kept : f ≤ length t
    f_kept = (on-bounds t c f is.on).1

    -- else those before the first that doesn't connect
    pub sees-before : (x : ℕ) → passes_on r t c x ≡ has (before t f) x
    unfolding passes_on
    sees-before x =
        same_tests _ _
        (λ h.
        let b = and_parts (branch_connects r t x) (on t c x) h in
        elim (on_chain t c x f b.1 is.on) [
          | inl p ↦ absurd (never_fails r t x f b.0 p is.first)
          | inr p ↦ elim (or_cases (eqb f x) (has (before t f) x) (sym (on-before t f x f_kept) ∙ p)) [
            | inl e ↦ let q = eqb-true f x e in absurd (never_fails r t x f b.0 (subst (λ (z : ℕ). on t x z ≡ true) (sym q) (on-itself t x (on-bounds t c x b.1).1)) is.first)
            | inr e ↦ e
          ]
        ])
        (λ h.
        let p : on t f x ≡ true = on-before t f x f_kept ∙ or_right (eqb f x) (has (before t f) x) h in
        let l = before-below t f x f_kept h in
        and_from _ _
        (valid_from r t x (λ y q.
        let m = (on-bounds t x y q).0 in
        elim (below_first r t f y f_kept is.first (on_trans t f x y p q)) [ inl e ↦ absurd (omega arith) | inr e ↦ e ]))
        (on_trans t c f x is.on p))

    -- and that one is marked
    pub marks-first : (x : ℕ) → fails_on r t c x ≡ eqb x f
    unfolding fails_on
    marks-first x =
        same_tests _ _
        (λ h. let b = and_parts (first_to_fail r t x) (on t c x) h in eq-eqb x f (same_first r t c x f b.1 is.on b.0 is.first))
        (λ h. let e = eqb-true x f h in
        and_from _ _ (subst (λ (z : ℕ). first_to_fail r t z ≡ true) (sym e) is.first) (subst (λ (z : ℕ). on t c z ≡ true) (sym e) is.on))

module _ {B I : Type 0} (r : Rules B I) (s : State B) (x : ℕ) where
  passes-from : (c : ℕ) → c ≤ length s.blocks → passes_on r s.blocks c x ≡ true → Passes r s.blocks c x
  passes-from c l h =
      elim (cases_Bool (branch_connects r s.blocks c)) [
        | inl v ↦ inl (v, sym (sees-all r s.blocks c v x) ∙ h)
        | inr v ↦
            let w = first_failure r s.blocks c l v in
            inr (w.0, record { on = w.1; first = w.2 }, sym (sees-before r s.blocks c w.0 (record { on = w.1; first = w.2 }) x) ∙ h)
      ]

  passes-to : (c : ℕ) → Passes r s.blocks c x → passes_on r s.blocks c x ≡ true
  passes-to c (inl h) = sees-all r s.blocks c h.0 x ∙ h.1
  passes-to c (inr h) = sees-before r s.blocks c h.0 h.1 x ∙ h.2

  pub seen-words : becomes_seen r s x ≡ true → OfCandidate r s (λ c. Passes r s.blocks c x)
  unfolding becomes_seen passes_on
  seen-words h =
      let b = and_parts (branch_connects r s.blocks x) (on_candidate r s x) h in
      let g = on_candidate_gives r s x b.1 in
      (g.0, g.1, g.2, passes-from g.0 g.1 (and_from _ _ b.0 g.3))

  pub seen_where : OfCandidate r s (λ c. Passes r s.blocks c x) → becomes_seen r s x ≡ true
  unfolding becomes_seen passes_on
  seen_where h =
      let b = and_parts (branch_connects r s.blocks x) (on s.blocks h.0 x) (passes-to h.0 h.3) in
      and_from _ _ b.0 (on_candidate_from r s h.0 x h.1 h.2 b.1)

  pub bad-words : becomes_bad r s x ≡ true → OfCandidate r s (λ c. IsFirstFault r s.blocks c x)
  unfolding becomes_bad
  bad-words h =
      let b = and_parts (first_to_fail r s.blocks x) (on_candidate r s x) h in
      let g = on_candidate_gives r s x b.1 in
      (g.0, g.1, g.2, record { on = g.3; first = b.0 })

  pub bad_where : OfCandidate r s (λ c. IsFirstFault r s.blocks c x) → becomes_bad r s x ≡ true
  unfolding becomes_bad
  bad_where h = and_from _ _ h.3.first (on_candidate_from r s h.0 x h.1 h.2 h.3.on)
