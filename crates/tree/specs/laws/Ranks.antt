-- `beats` is a strict order of all places, and what calls of `preciousblock` do to it.
use Rattle.std.proofs.Common.{◌≡◌, ℕ, suc, ◌<◌, ◌≤◌, Bool, true, false, cond, ◌&&◌, ◌||◌, eqb, ltb, List, [], ◌∷◌, ◌++◌, length, reverse, sym, ap, ◌∙◌, subst, inl, inr, ◌⊎◌, arith}
use Rattle.std.proofs.lemmas.Bool.{eqb-true, eq-eqb, ne_eqb, cases_Bool, cases_eq, cases_lt, or_cases, or_parts, and_parts, and_from, or_left, or_right, cases_order, ltb-true, lt-ltb, true≢false}
use Rattle.std.proofs.lemmas.List.{length-reverse, reverse-append}
use Rattle.tree.specs.Branches.{has, height}
use Rattle.tree.specs.State.{State, rank_in, rank, beats, with_call}
use Rattle.tree.specs.Sound.{Precedes}

-- by three numbers, one after the other, and the last the other way round
abbrev above : ℕ → ℕ → ℕ → ℕ → ℕ → ℕ → Bool
above h k r q a b = ltb k h || (eqb h k && (ltb q r || (eqb r q && ltb a b)))

abbrev pub Later : ℕ → ℕ → ℕ → ℕ → Type 0
Later r q a b = (q < r) ⊎ ((r ≡ q) × (a < b))

abbrev pub Above : ℕ → ℕ → ℕ → ℕ → ℕ → ℕ → Type 0
Above h k r q a b = (k < h) ⊎ ((h ≡ k) × Later r q a b)

gives : (h k r q a b : ℕ) → above h k r q a b ≡ true → Above h k r q a b
gives h k r q a b e =
    elim (or_cases (ltb k h) (eqb h k && (ltb q r || (eqb r q && ltb a b))) e) [
      | inl x ↦ inl (ltb-true k h x)
      | inr x ↦
          let y = and_parts (eqb h k) (ltb q r || (eqb r q && ltb a b)) x in
          inr (
            eqb-true h k y.0,
            elim (or_cases (ltb q r) (eqb r q && ltb a b) y.1) [
              | inl z ↦ inl (ltb-true q r z)
              | inr z ↦ let w = and_parts (eqb r q) (ltb a b) z in inr (eqb-true r q w.0, ltb-true a b w.1)
            ],
          )
    ]

from : (h k r q a b : ℕ) → Above h k r q a b → above h k r q a b ≡ true
from h k r q a b (inl x) = or_left (ltb k h) (eqb h k && (ltb q r || (eqb r q && ltb a b))) (lt-ltb k h x)
from h k r q a b (inr x) =
    or_right (ltb k h) (eqb h k && (ltb q r || (eqb r q && ltb a b))) (and_from _ _ (eq-eqb h k x.0) (elim x.1 [
      | inl z ↦ or_left (ltb q r) (eqb r q && ltb a b) (lt-ltb q r z)
      | inr z ↦ or_right (ltb q r) (eqb r q && ltb a b) (and_from _ _ (eq-eqb r q z.0) (lt-ltb a b z.1))
    ]))

later_falls : (r q a b : ℕ) → Later r q a b → Later q r b a → ⊥
later_falls r q a b (inl x) (inl y) = omega arith
later_falls r q a b (inl x) (inr y) = let e = y.0 in omega arith
later_falls r q a b (inr x) (inl y) = let e = x.0 in omega arith
later_falls r q a b (inr x) (inr y) = let e = x.1 in let f = y.1 in omega arith

falls : (h k r q a b : ℕ) → Above h k r q a b → Above k h q r b a → ⊥
falls h k r q a b (inl x) (inl y) = omega arith
falls h k r q a b (inl x) (inr y) = let e = y.0 in omega arith
falls h k r q a b (inr x) (inl y) = let e = x.0 in omega arith
falls h k r q a b (inr x) (inr y) = later_falls r q a b x.1 y.1

later_trans : (r q p a b c : ℕ) → Later r q a b → Later q p b c → Later r p a c
later_trans r q p a b c (inl x) (inl y) = inl (omega arith)
later_trans r q p a b c (inl x) (inr y) = let e = y.0 in inl (omega arith)
later_trans r q p a b c (inr x) (inl y) = let e = x.0 in inl (omega arith)
later_trans r q p a b c (inr x) (inr y) = let e = x.0 in let f = y.0 in let g = x.1 in let i = y.1 in inr (omega arith, omega arith)

trans : (h k l r q p a b c : ℕ) → Above h k r q a b → Above k l q p b c → Above h l r p a c
trans h k l r q p a b c (inl x) (inl y) = inl (omega arith)
trans h k l r q p a b c (inl x) (inr y) = let e = y.0 in inl (omega arith)
trans h k l r q p a b c (inr x) (inl y) = let e = x.0 in inl (omega arith)
trans h k l r q p a b c (inr x) (inr y) = let e = x.0 in let f = y.0 in inr (omega arith, later_trans r q p a b c x.1 y.1)

total : (h k r q a b : ℕ) → (a ≡ b → ⊥) → Above h k r q a b ⊎ Above k h q r b a
total h k r q a b n =
    elim (cases_order h k) [
      | inr x ↦ elim x [ inl l ↦ inr (inl l) | inr l ↦ inl (inl l) ]
      | inl e ↦ elim (cases_order r q) [
        | inr x ↦ elim x [ inl l ↦ inr (inr (sym e, inl l)) | inr l ↦ inl (inr (e, inl l)) ]
        | inl f ↦ elim (cases_order a b) [
          | inl g ↦ absurd (n g)
          | inr x ↦ elim x [ inl l ↦ inl (inr (e, inr (f, l))) | inr l ↦ inr (inr (sym e, inr (sym f, l))) ]
        ]
      ]
    ]

module _ {B : Type 0} (s : State B) where
  abbrev pub IsAbove : ℕ → ℕ → Type 0
  IsAbove a b = Above (height s.blocks a) (height s.blocks b) (rank s a) (rank s b) a b

  pub better-above : (a b : ℕ) → beats s a b ≡ true → IsAbove a b
  unfolding beats
  better-above a b h = gives _ _ _ _ a b h

  pub better_from : (a b : ℕ) → IsAbove a b → beats s a b ≡ true
  unfolding beats
  better_from a b h = from _ _ _ _ a b h

  pub better_falls : (a b : ℕ) → beats s a b ≡ true → beats s b a ≡ true → ⊥
  better_falls a b h g = falls _ _ _ _ a b (better-above a b h) (better-above b a g)

  pub better_trans : (a b c : ℕ) → beats s a b ≡ true → beats s b c ≡ true → beats s a c ≡ true
  better_trans a b c h g = better_from a c (trans _ _ _ _ _ _ a b c (better-above a b h) (better-above b c g))

  -- of two blocks one is better
  pub better_or : (a b : ℕ) → (a ≡ b → ⊥) → (beats s a b ≡ true) ⊎ (beats s b a ≡ true)
  better_or a b n =
      elim (total (height s.blocks a) (height s.blocks b) (rank s a) (rank s b) a b n) [ inl h ↦ inl (better_from a b h) | inr h ↦ inr (better_from b a h) ]

  -- a better block isn't lower
  pub better-height : (a b : ℕ) → beats s a b ≡ true → height s.blocks b ≤ height s.blocks a
  better-height a b h = elim (better-above a b h) [ inl l ↦ omega arith | inr l ↦ let e = l.0 in omega arith ]

-- ---- the number of the last call

pub rank_last : (l : List ℕ) (p : ℕ) → rank_in (p ∷ l) p ≡ suc (length l)
unfolding rank_in
rank_last l p = ap (λ b. cond b (suc (length l)) (rank_in l p)) (eq-eqb p p refl)
  where
    refl : p ≡ p
    refl = omega arith

pub rank_other : (l : List ℕ) (p x : ℕ) → (p ≡ x → ⊥) → rank_in (p ∷ l) x ≡ rank_in l x
unfolding rank_in
rank_other l p x n = ap (λ b. cond b (suc (length l)) (rank_in l x)) (ne_eqb p x n)

-- one call more, after the others
pub rank_more : (l : List ℕ) (x p : ℕ) → rank_in (reverse (l ++ x ∷ [])) p ≡ cond (eqb x p) (suc (length l)) (rank_in (reverse l) p)
unfolding rank_in
rank_more l x p =
    ap (λ (k : List ℕ). rank_in k p) (reverse-append l (x ∷ []))
    ∙ ap (λ (n : ℕ). cond (eqb x p) (suc n) (rank_in (reverse l) p)) (length-reverse l)

pub rank-bound : (l : List ℕ) (x : ℕ) → rank_in l x ≤ length l
unfolding rank_in
rank-bound [] x = omega arith
rank-bound (y ∷ l) x =
    elim (eqb y x) as (λ b. cond b (suc (length l)) (rank_in l x) ≤ suc (length l)) [
      | true ↦ omega arith
      | false ↦ let h = rank-bound l x in omega arith
    ]

pub rank-none : (l : List ℕ) (x : ℕ) → has l x ≡ false → rank_in l x ≡ 0
unfolding rank_in
rank-none [] x h = omega arith
rank-none (y ∷ l) x h =
    let b = or_parts (eqb y x) (has l x) h in
    ap (λ v. cond v (suc (length l)) (rank_in l x)) b.0 ∙ rank-none l x b.1

pub rank-some : (l : List ℕ) (x : ℕ) → has l x ≡ true → 0 < rank_in l x
unfolding rank_in
rank-some [] x h = absurd (true≢false (sym h))
rank-some (y ∷ l) x h =
    elim (eqb y x) as (λ b. (b || has l x) ≡ true → 0 < cond b (suc (length l)) (rank_in l x)) [
      | true ↦ λ e. omega arith
      | false ↦ λ e. rank-some l x e
    ] h

-- no two have the same
pub rank-same : (l : List ℕ) (x y : ℕ) → has l x ≡ true → rank_in l x ≡ rank_in l y → x ≡ y
rank-same [] x y h e = absurd (true≢false (sym h))
rank-same (z ∷ l) x y h e =
    elim (cases_eq z x) [
      | inl p ↦ elim (cases_eq z y) [
        | inl q ↦ sym p ∙ q
        | inr q ↦
            let a : rank_in (z ∷ l) x ≡ suc (length l) = subst (λ (w : ℕ). rank_in (z ∷ l) w ≡ suc (length l)) p (rank_last l z) in
            let b = rank_other l z y q in
            let c = rank-bound l y in
            absurd (omega arith)
      ]
      | inr p ↦ elim (cases_eq z y) [
        | inl q ↦
            let a : rank_in (z ∷ l) y ≡ suc (length l) = subst (λ (w : ℕ). rank_in (z ∷ l) w ≡ suc (length l)) q (rank_last l z) in
            let b = rank_other l z x p in
            let c = rank-bound l x in
            absurd (omega arith)
        | inr q ↦ rank-same l x y (old p) (sym (rank_other l z x p) ∙ e ∙ rank_other l z y q)
      ]
    ]
  where
    old : (z ≡ x → ⊥) → has l x ≡ true
    old n = elim (or_cases (eqb z x) (has l x) h) [ inl q ↦ absurd (n (eqb-true z x q)) | inr q ↦ q ]

-- ---- the rule in other words

module _ {B : Type 0} (s : State B) (a b : ℕ) where
  pub better-precedes : beats s a b ≡ true → Precedes s a b
  unfolding rank
  better-precedes h =
      elim (better-above s a b h) [
        | inl l ↦ inl l
        | inr q ↦ inr (
          q.0,
          elim (cases_Bool (has s.precious a)) [
            | inl x ↦ elim (cases_Bool (has s.precious b)) [
              | inl y ↦ inr (inl (x, y, elim q.1 [ inl l ↦ l | inr l ↦ let e = rank-same s.precious a b x l.0 in let m = l.1 in absurd (omega arith) ]))
              | inr y ↦ inl (x, y)
            ]
            | inr x ↦
                let n = rank-none s.precious a x in
                elim (cases_Bool (has s.precious b)) [
                  | inl y ↦ let m = rank-some s.precious b y in absurd (elim q.1 [ inl l ↦ omega arith | inr l ↦ let e = l.0 in omega arith ])
                  | inr y ↦ inr (inr (x, y, elim q.1 [ inl l ↦ absurd (let m = rank-none s.precious b y in omega arith) | inr l ↦ l.1 ]))
                ]
          ],
        )
      ]

  pub better_where : Precedes s a b → beats s a b ≡ true
  unfolding rank
  better_where (inl l) = better_from s a b (inl l)
  better_where (inr q) =
      better_from s a b (inr (
        q.0,
        elim q.1 [
          | inl w ↦ let m = rank-some s.precious a w.0 in let n = rank-none s.precious b w.1 in inl (omega arith)
          | inr w ↦ elim w [
            | inl v ↦ inl v.2
            | inr v ↦ let m = rank-none s.precious a v.0 in let n = rank-none s.precious b v.1 in inr (omega arith, v.2)
          ]
        ],
      ))

-- ---- after a call

module _ {B : Type 0} (s : State B) (p : ℕ) where
  -- the block is better than all that aren't higher
  pub better-called : (d : ℕ) → (p ≡ d → ⊥) → height s.blocks d ≤ height s.blocks p → beats (with_call s p) p d ≡ true
  unfolding rank
  better-called d n h =
      let a : rank (with_call s p) p ≡ suc (length s.precious) = rank_last s.precious p in
      let b : rank (with_call s p) d ≡ rank_in s.precious d = rank_other s.precious p d n in
      let c = rank-bound s.precious d in
      better_from (with_call s p) p d (elim (cases_lt (height s.blocks d) (height s.blocks p)) [
        | inl l ↦ inl l
        | inr l ↦ inr (omega arith, inl (omega arith))
      ])

  -- between two others nothing changes
  pub better-others : (a b : ℕ) → (p ≡ a → ⊥) → (p ≡ b → ⊥) → beats (with_call s p) a b ≡ beats s a b
  unfolding beats rank
  better-others a b n m =
      ap (λ x. above (height s.blocks a) (height s.blocks b) x (rank_in (p ∷ s.precious) b) a b) (rank_other s.precious p a n)
      ∙ ap (λ x. above (height s.blocks a) (height s.blocks b) (rank_in s.precious a) x a b) (rank_other s.precious p b m)
