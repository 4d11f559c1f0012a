-- Where a settled state gets one block or one call more, and that block is the best usable one, its one try settles the state.
use Rattle.std.proofs.Common.{◌≡◌, ℕ, suc, ◌≤◌, true, false, ◌&&◌, length, sym, ◌∙◌, subst, inl, inr, ◌⊎◌, arith}
use Rattle.std.proofs.lemmas.Bool.{cases_Bool, cases_eq, and_parts, and_from, or_left, or_right, false_from_ne_true}
use Rattle.tree.specs.Branches.{Kept, has, on}
use Rattle.tree.specs.State.{State, has_no_mark, beats, with_block, with_call}
use Rattle.tree.specs.Sound.{IsBest}
use Rattle.tree.specs.laws.Sets.{clash, in_order-joined}
use Rattle.tree.specs.laws.Branches.{on-bounds, on_there}
use Rattle.tree.specs.laws.Ranks.{better_falls, better-others}
use Rattle.tree.specs.laws.Marks.{usable_gives, bad-flagged, seen-flagged}
use Rattle.tree.specs.laws.AddedBlock.{better_there, usable_there}
use Rattle.model.specs.Rules.{Rules}
use Rattle.model.specs.Valid.{branch_connects, first_to_fail}
use Rattle.model.specs.Settle.{active, is_candidate, settle}
use Rattle.model.specs.Try.{fails_on, passes_on, state_after_try}
use Rattle.model.specs.StateInvariant.{IsSettled}
use Rattle.model.specs.laws.Actives.{active_only, active_kept, active_usable, active_valid, can_from, can_gives}
use Rattle.model.specs.laws.Candidates.{first_failure, never_fails, candidate_gives}
use Rattle.model.specs.laws.AddedBlock.{valid_there}
use Rattle.model.specs.laws.Precious.{usable-called}
use Rattle.model.specs.laws.SettledState.{best_usable, active_seen, settled_where}
use Rattle.model.specs.laws.Tries.{best-candidate, active-best, settle-best, settle-tried, was_candidate}

-- the best usable block c isn't valid; the block a is valid, its branch was seen, and it is the next best usable one
module _ {B I : Type 0} (r : Rules B I) (s : State B) (a c : ℕ) (z : has_no_mark s 0 ≡ true) (best : IsBest s (has_no_mark s) (length s.blocks) c) (bad : branch_connects r s.blocks c ≡ false)
    (kept : a ≤ length s.blocks) (usable : has_no_mark s a ≡ true) (good : branch_connects r s.blocks a ≡ true) (seen : (x : ℕ) → on s.blocks a x ≡ true → has s.seen x ≡ true)
    (next : (d : ℕ) → d ≤ length s.blocks → has_no_mark s d ≡ true → (d ≡ c) ⊎ ((d ≡ a) ⊎ (beats s a d ≡ true))) where
  -- then a is the active one
  pub active-next : active r s ≡ a
  active-next = active_only r s a (record {
    kept = kept;
    can = can_from r s a usable good;
    tops = λ d l can.
        let q = can_gives r s d can in
        elim (next d l q.0) [
          | inl e ↦ absurd (clash _ (subst (λ (x : ℕ). branch_connects r s.blocks x ≡ true) e q.1) bad)
          | inr w ↦ w
        ];
  })

  -- and the candidates are these two
  one_of_two : (d : ℕ) → d ≤ length s.blocks → is_candidate r s d ≡ true → (d ≡ c) ⊎ (d ≡ a)
  one_of_two d l can =
      let q = candidate_gives r s d can in
      elim (next d l q.0) [
        | inl e ↦ inl e
        | inr w ↦ elim w [
          | inl e ↦ inr e
          | inr above ↦ inr (elim q.1 [
            | inl e ↦ e ∙ active-next
            | inr beat ↦ absurd (better_falls s d a (subst (λ (x : ℕ). beats s d x ≡ true) active-next beat) above)
          ])
        ]
      ]

  abbrev after : State B
  after = state_after_try r s c

  -- the try of c leaves it unusable
  unusable : has_no_mark after c ≡ true → ⊥
  unfolding state_after_try fails_on
  unusable u =
      let x = first_failure r s.blocks c best.kept bad in
      clash _
      (bad-flagged s (fails_on r s.blocks c) (passes_on r s.blocks c) x.0 (on-bounds s.blocks c x.0 x.1).1 ∙ or_right (has s.bad x.0) (first_to_fail r s.blocks x.0 && on s.blocks c x.0) (and_from _ _ x.2 x.1))
      (usable_gives after c x.0 u x.1)

  -- it marks no block of a valid branch
  spares_valid : (d x : ℕ) → branch_connects r s.blocks d ≡ true → on s.blocks d x ≡ true → fails_on r s.blocks c x ≡ false
  unfolding fails_on
  spares_valid d x v o = false_from_ne_true _ (λ h. never_fails r s.blocks d x v o (and_parts (first_to_fail r s.blocks x) (on s.blocks c x) h).0)

  -- so a alone is a candidate then, which was seen
  settled-after : settle r after ≡ after
  unfolding state_after_try
  settled-after =
      settled_where r after a good
      (λ d l can. elim (one_of_two d l (was_candidate r s (fails_on r s.blocks c) (passes_on r s.blocks c) z spares_valid d can)) [
        | inl e ↦ absurd (unusable (subst (λ (x : ℕ). has_no_mark after x ≡ true) e (candidate_gives r after d can).0))
        | inr e ↦ e
      ])
      (λ x o. seen-flagged s (fails_on r s.blocks c) (passes_on r s.blocks c) x (on-bounds s.blocks a x o).1 ∙ or_left (has s.seen x) (passes_on r s.blocks c x) (seen x o))
      (in_order-joined (length s.blocks) s.bad (fails_on r s.blocks c))
      (in_order-joined (length s.blocks) s.seen (passes_on r s.blocks c))

  pub settle-next : settle r s ≡ state_after_try r s c
  settle-next = sym (settle-tried r s c z best.kept (best-candidate r s c z best)) ∙ settled-after

-- a block more
module _ {B I : Type 0} (r : Rules B I) (s : State B) (sound : IsSettled r s) (b : B) (p : ℕ) where
  abbrev new : Kept B
  new = record { block = b; parent = p }

  abbrev n : ℕ
  n = suc (length s.blocks)

  abbrev more : State B
  more = with_block s b p

  abbrev a : ℕ
  a = active r s

  module _ (best : IsBest more (has_no_mark more) (length more.blocks) n) where
    a_kept : a ≤ length s.blocks
    a_kept = active_kept r s sound.genesis

    genesis_usable : has_no_mark more 0 ≡ true
    genesis_usable = usable_there s new 0 (omega arith) ∙ sound.genesis

    -- the active block of before is the best of the others
    next_added : (d : ℕ) → d ≤ length more.blocks → has_no_mark more d ≡ true → (d ≡ n) ⊎ ((d ≡ a) ⊎ (beats more a d ≡ true))
    next_added d l u = elim (cases_eq d n) [
      | inl e ↦ inl e
      | inr e ↦
          let m : d ≤ length s.blocks = omega arith in
          inr (elim ((best_usable r s sound).tops d m (sym (usable_there s new d m) ∙ u)) [
            | inl w ↦ inl w
            | inr w ↦ inr (better_there s new a d a_kept m ∙ w)
          ])
    ]

    usable_added : has_no_mark more a ≡ true
    usable_added = usable_there s new a a_kept ∙ active_usable r s sound.genesis

    good_added : branch_connects r more.blocks a ≡ true
    good_added = valid_there r new s.blocks a a_kept ∙ active_valid r s sound.genesis

    seen_added : (x : ℕ) → on more.blocks a x ≡ true → has more.seen x ≡ true
    seen_added x o = active_seen r s sound x (sym (on_there new s.blocks a x (let l = a_kept in omega arith)) ∙ o)

    -- if the new block isn't valid the active one stays
    pub active-added_bad : branch_connects r more.blocks n ≡ false → active r more ≡ active r s
    active-added_bad bad = active-next r more a n genesis_usable best bad (let l = a_kept in omega arith) usable_added good_added seen_added next_added

    pub active-added_good : branch_connects r more.blocks n ≡ true → active r more ≡ n
    active-added_good v = active-best r more n genesis_usable best v

    -- valid or not, its try settles the state
    pub settle-added : settle r more ≡ state_after_try r more n
    settle-added = elim (cases_Bool (branch_connects r more.blocks n)) [
      | inl v ↦ settle-best r more n genesis_usable best v
      | inr bad ↦ settle-next r more a n genesis_usable best bad (let l = a_kept in omega arith) usable_added good_added seen_added next_added
    ]

-- a call more
module _ {B I : Type 0} (r : Rules B I) (s : State B) (sound : IsSettled r s) (p : ℕ) where
  abbrev called : State B
  called = with_call s p

  abbrev was : ℕ
  was = active r s

  module _ (best : IsBest called (has_no_mark called) (length called.blocks) p) where
    genesis_called : has_no_mark called 0 ≡ true
    genesis_called = usable-called r s p 0 ∙ sound.genesis

    another : branch_connects r s.blocks p ≡ false → p ≡ was → ⊥
    another bad e = clash _ (active_valid r s sound.genesis) (subst (λ (x : ℕ). branch_connects r s.blocks x ≡ false) e bad)

    -- the active block of before is the best of the others
    next_called : branch_connects r s.blocks p ≡ false → (d : ℕ) → d ≤ length called.blocks → has_no_mark called d ≡ true → (d ≡ p) ⊎ ((d ≡ was) ⊎ (beats called was d ≡ true))
    next_called bad d l u = elim (cases_eq d p) [
      | inl e ↦ inl e
      | inr e ↦ inr (elim ((best_usable r s sound).tops d l (sym (usable-called r s p d) ∙ u)) [
        | inl w ↦ inl w
        | inr w ↦ inr (better-others s p was d (another bad) (λ q. e (sym q)) ∙ w)
      ])
    ]

    usable_called : has_no_mark called was ≡ true
    usable_called = usable-called r s p was ∙ active_usable r s sound.genesis

    -- if the called block isn't valid the active one stays
    pub active-called_bad : branch_connects r s.blocks p ≡ false → active r called ≡ active r s
    active-called_bad bad =
        active-next r called was p genesis_called best bad (active_kept r s sound.genesis) usable_called (active_valid r s sound.genesis) (active_seen r s sound) (next_called bad)

    pub active-called_good : branch_connects r s.blocks p ≡ true → active r called ≡ p
    active-called_good v = active-best r called p genesis_called best v

    -- valid or not, its try settles the state
    pub settle-called : settle r called ≡ state_after_try r called p
    settle-called = elim (cases_Bool (branch_connects r s.blocks p)) [
      | inl v ↦ settle-best r called p genesis_called best v
      | inr bad ↦ settle-next r called was p genesis_called best bad (active_kept r s sound.genesis) usable_called (active_valid r s sound.genesis) (active_seen r s sound) (next_called bad)
    ]
