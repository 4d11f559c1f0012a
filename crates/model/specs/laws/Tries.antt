-- Trying one block at a time reaches what is decided on the whole state at once.
use Rattle.std.proofs.Common.{◌≡◌, ℕ, zero, suc, ◌<◌, ◌≤◌, Bool, true, false, cond, not, ◌&&◌, ◌||◌, List, [], ◌∷◌, length, sym, refl, ap, ◌∙◌, subst, inl, inr, ◌⊎◌, arith}
use Rattle.std.specs.List.{filter}
use Rattle.std.proofs.lemmas.Bool.{cases_Bool, cases_eq, or_cases, or_parts, and_parts, and_from, or_left, or_right, not-true, not_from_true, not_from_false, true≢false, false_from_ne_true}
use Rattle.tree.specs.Branches.{has, on, places, down_from}
use Rattle.tree.specs.State.{State, has_no_mark, beats, with_new_flags}
use Rattle.tree.specs.Sound.{IsBest}
use Rattle.tree.specs.laws.Sets.{same_tests}
use Rattle.tree.specs.laws.Branches.{on-bounds, on_trans, on_chain}
use Rattle.tree.specs.laws.Ranks.{better_falls}
use Rattle.tree.specs.laws.Marks.{usable_gives, bad-flagged, better-flagged, usable-weaker, usable-kept, spoiled-flagged, flagged_twice, flagged_agree}
use Rattle.model.specs.Rules.{Rules}
use Rattle.model.specs.Valid.{branch_connects, first_to_fail}
use Rattle.model.specs.Settle.{active, is_candidate, on_candidate, becomes_seen, becomes_bad, settle}
use Rattle.model.specs.Try.{fails_on, passes_on, state_after_try}
use Rattle.model.specs.laws.Actives.{active_is, active_only, can_from, can_gives, valid-genesis}
use Rattle.model.specs.laws.Candidates.{same_first, never_fails, first_failure, candidate_gives, candidate_from, on_candidate_gives, on_candidate_from}

-- ---- marks on blocks that don't connect

module _ {B I : Type 0} (r : Rules B I) (s : State B) (f g : ℕ → Bool) (z : has_no_mark s 0 ≡ true)
    (spares : (c x : ℕ) → branch_connects r s.blocks c ≡ true → on s.blocks c x ≡ true → f x ≡ false) where
  -- leave the active block what it was
  pub active-flagged : active r (with_new_flags s f g) ≡ active r s
  active-flagged =
      let a = active_is r s z in
      let p = active r s in
      let h = can_gives r s p a.can in
      active_only r (with_new_flags s f g) p (record {
        kept = a.kept;
        can = can_from r (with_new_flags s f g) p (usable-kept s f g p h.0 (λ x o. spares p x h.1 o)) h.1;
        tops = λ b l e.
            let q = can_gives r (with_new_flags s f g) b e in
            elim (a.tops b l (can_from r s b (usable-weaker s f g b q.0) q.1)) [
              | inl w ↦ inl w
              | inr w ↦ inr (better-flagged s f g p b ∙ w)
            ];
      })

  -- a candidate of the marked state was one before
  pub was_candidate : (d : ℕ) → is_candidate r (with_new_flags s f g) d ≡ true → is_candidate r s d ≡ true
  was_candidate d h =
      let b = candidate_gives r (with_new_flags s f g) d h in
      candidate_from r s d (usable-weaker s f g d b.0) (elim b.1 [
        | inl e ↦ inl (e ∙ active-flagged)
        | inr e ↦ inr (subst (λ (a : ℕ). beats s d a ≡ true) active-flagged (sym (better-flagged s f g d (active r (with_new_flags s f g))) ∙ e))
      ])

  pub was_on_candidate : (x : ℕ) → on_candidate r (with_new_flags s f g) x ≡ true → on_candidate r s x ≡ true
  was_on_candidate x h =
      let w = on_candidate_gives r (with_new_flags s f g) x h in on_candidate_from r s w.0 x w.1 (was_candidate w.0 w.2) w.3

-- ---- one try

module _ {B I : Type 0} (r : Rules B I) (s : State B) (c : ℕ) where
  -- changes marks and sights alone
  pub tried-blocks : (state_after_try r s c).blocks ≡ s.blocks
  unfolding state_after_try
  tried-blocks = refl

  pub tried-precious : (state_after_try r s c).precious ≡ s.precious
  unfolding state_after_try
  tried-precious = refl

module _ {B I : Type 0} (r : Rules B I) (s : State B) (c : ℕ) (z : has_no_mark s 0 ≡ true) where
  abbrev marks : ℕ → Bool
  marks x = fails_on r s.blocks c x

  abbrev sees : ℕ → Bool
  sees x = passes_on r s.blocks c x

  abbrev after : State B
  after = with_new_flags s marks sees

  spares : (p x : ℕ) → branch_connects r s.blocks p ≡ true → on s.blocks p x ≡ true → marks x ≡ false
  unfolding fails_on
  spares p x v o = false_from_ne_true _ (λ h. never_fails r s.blocks p x v o (and_parts (first_to_fail r s.blocks x) (on s.blocks c x) h).0)

  after_active : active r after ≡ active r s
  after_active = active-flagged r s marks sees z spares

  -- never marks genesis
  pub genesis-tried : has_no_mark (state_after_try r s c) 0 ≡ true
  unfolding state_after_try
  genesis-tried = usable-kept s marks sees 0 z (λ x o. spares 0 x (valid-genesis r s.blocks) o)

  -- and leaves the active block what it was
  pub active-tried : active r (state_after_try r s c) ≡ active r s
  unfolding state_after_try
  active-tried = after_active

  module _ (l : c ≤ length s.blocks) (k : is_candidate r s c ≡ true) where
    on_c : (x : ℕ) → on s.blocks c x ≡ true → on_candidate r s x ≡ true
    on_c x o = on_candidate_from r s c x l k o

    still : (x : ℕ) → on_candidate r after x ≡ true → on_candidate r s x ≡ true
    still x h = was_on_candidate r s marks sees z spares x h

    -- a candidate of before is one still, or the try marked a block of its branch
    either : (x : ℕ) → on_candidate r s x ≡ true → (on_candidate r after x ≡ true) ⊎ ((d : ℕ) × (y : ℕ) × (on s.blocks d x ≡ true) × (on s.blocks d y ≡ true) × (marks y ≡ true))
    either x h =
        let g = on_candidate_gives r s x h in
        let d = g.0 in
        let b = candidate_gives r s d g.2 in
        elim (cases_Bool (has_no_mark after d)) [
          | inl v ↦ inl (on_candidate_from r after d x g.1 (candidate_from r after d v (elim b.1 [
            | inl e ↦ inl (e ∙ sym after_active)
            | inr e ↦ inr (subst (λ (a : ℕ). beats after d a ≡ true) (sym after_active) (better-flagged s marks sees d (active r s) ∙ e))
          ])) g.3)
          | inr v ↦ let y = spoiled-flagged s marks sees d b.0 v in inr (d, y.0, g.3, y.1, y.2)
        ]

    bad_same : (x : ℕ) → (marks x || becomes_bad r after x) ≡ becomes_bad r s x
    unfolding becomes_bad fails_on
    bad_same x =
        same_tests _ _
        (λ h. elim (or_cases (first_to_fail r s.blocks x && on s.blocks c x) (first_to_fail r s.blocks x && on_candidate r after x) h) [
          | inl p ↦ let b = and_parts (first_to_fail r s.blocks x) (on s.blocks c x) p in and_from _ _ b.0 (on_c x b.1)
          | inr p ↦ let b = and_parts (first_to_fail r s.blocks x) (on_candidate r after x) p in and_from _ _ b.0 (still x b.1)
        ])
        (λ h.
        let b = and_parts (first_to_fail r s.blocks x) (on_candidate r s x) h in
        elim (either x b.1) [
          | inl o ↦ or_right (first_to_fail r s.blocks x && on s.blocks c x) (first_to_fail r s.blocks x && on_candidate r after x) (and_from _ _ b.0 o)
          | inr w ↦
              let f = and_parts (first_to_fail r s.blocks w.1) (on s.blocks c w.1) w.4 in
              or_left _ _ (and_from _ _ b.0 (subst (λ (v : ℕ). on s.blocks c v ≡ true) (sym (same_first r s.blocks w.0 x w.1 w.2 w.3 b.0 f.0)) f.1))
        ])

    seen_same : (x : ℕ) → (sees x || becomes_seen r after x) ≡ becomes_seen r s x
    unfolding becomes_seen passes_on fails_on
    seen_same x =
        same_tests _ _
        (λ h. elim (or_cases (branch_connects r s.blocks x && on s.blocks c x) (branch_connects r s.blocks x && on_candidate r after x) h) [
          | inl p ↦ let b = and_parts (branch_connects r s.blocks x) (on s.blocks c x) p in and_from _ _ b.0 (on_c x b.1)
          | inr p ↦ let b = and_parts (branch_connects r s.blocks x) (on_candidate r after x) p in and_from _ _ b.0 (still x b.1)
        ])
        (λ h.
        let b = and_parts (branch_connects r s.blocks x) (on_candidate r s x) h in
        elim (either x b.1) [
          | inl o ↦ or_right (branch_connects r s.blocks x && on s.blocks c x) (branch_connects r s.blocks x && on_candidate r after x) (and_from _ _ b.0 o)
          | inr w ↦
              let f = and_parts (first_to_fail r s.blocks w.1) (on s.blocks c w.1) w.4 in
              or_left _ _ (and_from _ _ b.0 (elim (on_chain s.blocks w.0 x w.1 w.2 w.3) [
                | inl o ↦ absurd (never_fails r s.blocks x w.1 b.0 o f.0)
                | inr o ↦ on_trans s.blocks c w.1 x f.1 o
              ]))
        ])

    -- a try of a candidate leaves what settling gives
    pub settle-tried : settle r (state_after_try r s c) ≡ settle r s
    unfolding settle state_after_try
    settle-tried =
        flagged_twice s marks sees (becomes_bad r after) (becomes_seen r after)
        ∙ flagged_agree s _ _ _ _ (λ x l. bad_same x) (λ x l. seen_same x)

  -- a candidate on whose branch are those of all others settles the state by its try
  pub settle-one : is_candidate r s c ≡ true → c ≤ length s.blocks → ((d x : ℕ) → d ≤ length s.blocks → is_candidate r s d ≡ true → on s.blocks d x ≡ true → on s.blocks c x ≡ true) → settle r s ≡ state_after_try r s c
  unfolding settle state_after_try becomes_bad becomes_seen fails_on passes_on
  settle-one k l f =
      flagged_agree s _ _ _ _ (λ x h. ap (λ b. first_to_fail r s.blocks x && b) (only x)) (λ x h. ap (λ b. branch_connects r s.blocks x && b) (only x))
    where
      only : (x : ℕ) → on_candidate r s x ≡ on s.blocks c x
      only x =
          same_tests _ _
          (λ h. let g = on_candidate_gives r s x h in f g.0 x g.1 g.2 g.3)
          (λ h. on_candidate_from r s c x l k h)

  module _ (best : IsBest s (has_no_mark s) (length s.blocks) c) where
    -- the best usable block is a candidate
    pub best-candidate : is_candidate r s c ≡ true
    best-candidate =
        let a = active_is r s z in
        candidate_from r s c best.can (elim (best.tops (active r s) a.kept (can_gives r s (active r s) a.can).0) [
          | inl e ↦ inl (sym e)
          | inr e ↦ inr e
        ])

    module _ (v : branch_connects r s.blocks c ≡ true) where
      -- where its branch is valid it is the active one
      pub active-best : active r s ≡ c
      active-best = active_only r s c (record {
        kept = best.kept;
        can = can_from r s c best.can v;
        tops = λ b l e. best.tops b l (can_gives r s b e).0;
      })

      one_only : (d : ℕ) → d ≤ length s.blocks → (has_no_mark s d ≡ true) × ((d ≡ active r s) ⊎ (beats s d (active r s) ≡ true)) → d ≡ c
      one_only d l h =
          elim h.1 [
            | inl e ↦ e ∙ active-best
            | inr b ↦ elim (best.tops d l h.0) [
              | inl e ↦ e
              | inr t ↦ absurd (better_falls s c d t (subst (λ (w : ℕ). beats s d w ≡ true) active-best b))
            ]
          ]

      -- and its try settles the state
      pub settle-best : settle r s ≡ state_after_try r s c
      settle-best = settle-one best-candidate best.kept (λ d x l h o. subst (λ (w : ℕ). on s.blocks w x ≡ true) (one_only d l (candidate_gives r s d h)) o)

-- ---- tries end: one that fails marks a block

-- how many kept blocks have no mark
unfoldable pub count_without_mark : {B : Type 0} → State B → ℕ
count_without_mark s = length (filter (λ p. not (has s.bad p)) (places s.blocks))

module _ (f g : ℕ → Bool) where
  one_place : (a b : Bool) (x : ℕ) (l m : List ℕ) → (b ≡ true → a ≡ true) → length m ≤ length l → length (cond b (x ∷ m) m) ≤ length (cond a (x ∷ l) l)
  one_place true true x l m h e = omega arith
  one_place true false x l m h e = omega arith
  one_place false true x l m h e = absurd (true≢false (sym (h refl)))
  one_place false false x l m h e = e

  no_more : (n : ℕ) → ((p : ℕ) → p ≤ n → g p ≡ true → f p ≡ true) → length (filter g (down_from n)) ≤ length (filter f (down_from n))
  unfolding down_from
  no_more zero h = one_place (f 0) (g 0) 0 [] [] (h 0 (omega arith)) (omega arith)
  no_more (suc n) h = one_place (f (suc n)) (g (suc n)) (suc n) (filter f (down_from n)) (filter g (down_from n)) (h (suc n) (omega arith)) (no_more n (λ p l. h p (omega arith)))

  less_here : (a b : Bool) (x : ℕ) (l m : List ℕ) → a ≡ true → b ≡ false → length m ≤ length l → length (cond b (x ∷ m) m) < length (cond a (x ∷ l) l)
  less_here true true x l m p q e = absurd (true≢false q)
  less_here true false x l m p q e = omega arith
  less_here false b x l m p q e = absurd (true≢false (sym p))

  less_there : (a b : Bool) (x : ℕ) (l m : List ℕ) → (b ≡ true → a ≡ true) → length m < length l → length (cond b (x ∷ m) m) < length (cond a (x ∷ l) l)
  less_there true true x l m h e = omega arith
  less_there true false x l m h e = omega arith
  less_there false true x l m h e = absurd (true≢false (sym (h refl)))
  less_there false false x l m h e = e

  fewer : (n x : ℕ) → ((p : ℕ) → p ≤ n → g p ≡ true → f p ≡ true) → x ≤ n → f x ≡ true → g x ≡ false → length (filter g (down_from n)) < length (filter f (down_from n))
  unfolding down_from
  fewer zero x h l p q =
      let e : x ≡ 0 = omega arith in
      less_here (f 0) (g 0) 0 [] [] (subst (λ (z : ℕ). f z ≡ true) e p) (subst (λ (z : ℕ). g z ≡ false) e q) (omega arith)
  fewer (suc n) x h l p q =
      elim (cases_eq x (suc n)) [
        | inl e ↦ less_here (f (suc n)) (g (suc n)) (suc n) (filter f (down_from n)) (filter g (down_from n)) (subst (λ (z : ℕ). f z ≡ true) e p) (subst (λ (z : ℕ). g z ≡ false) e q) (no_more n (λ y m. h y (omega arith)))
        | inr e ↦ less_there (f (suc n)) (g (suc n)) (suc n) (filter f (down_from n)) (filter g (down_from n)) (h (suc n) (omega arith)) (fewer n x (λ y m. h y (omega arith)) (omega arith) p q)
      ]

pub unmarked-tried : {B I : Type 0} (r : Rules B I) (s : State B) (c : ℕ) → c ≤ length s.blocks → has_no_mark s c ≡ true → branch_connects r s.blocks c ≡ false → count_without_mark (state_after_try r s c) < count_without_mark s
unfolding count_without_mark state_after_try fails_on
unmarked-tried r s c l u v =
    let x = first_failure r s.blocks c l v in
    let k = (on-bounds s.blocks c x.0 x.1).1 in
    fewer (λ p. not (has s.bad p)) (λ p. not (has (with_new_flags s (fails_on r s.blocks c) (passes_on r s.blocks c)).bad p)) (length s.blocks) x.0
    (λ p m h. not_from_false (has s.bad p) (or_parts (has s.bad p) (first_to_fail r s.blocks p && on s.blocks c p)
    (sym (bad-flagged s (fails_on r s.blocks c) (passes_on r s.blocks c) p m) ∙ not-true _ h)).0)
    k
    (not_from_false (has s.bad x.0) (usable_gives s c x.0 u x.1))
    (not_from_true _ (bad-flagged s (fails_on r s.blocks c) (passes_on r s.blocks c) x.0 k ∙ or_right (has s.bad x.0) (first_to_fail r s.blocks x.0 && on s.blocks c x.0) (and_from _ _ x.2 x.1)))
