-- A settled state settles to itself, and has one candidate.
use Rattle.std.proofs.Common.{◌≡◌, ℕ, ◌≤◌, Bool, true, false, ◌&&◌, ◌||◌, List, length, sym, refl, ap, ◌∙◌, subst, inl, inr}
use Rattle.std.proofs.lemmas.Bool.{cases_Bool, cases_eq, and_parts, and_from, or_right, false_from_ne_true}
use Rattle.tree.specs.Branches.{has, places, on}
use Rattle.tree.specs.State.{State, union_where, with_new_flags, has_no_mark}
use Rattle.tree.specs.Sound.{IsBest}
use Rattle.tree.specs.laws.Sets.{InOrder, clash, in_order-joined, joined_agree, joined_within}
use Rattle.tree.specs.laws.Branches.{on-bounds}
use Rattle.tree.specs.laws.Ranks.{better_or, better_falls}
use Rattle.tree.specs.laws.Marks.{bad-flagged, seen-flagged, usable_gives, usable-kept, flagged_twice, flagged_agree}
use Rattle.model.specs.Rules.{Rules}
use Rattle.model.specs.Valid.{branch_connects, first_to_fail}
use Rattle.model.specs.Settle.{active, is_candidate, on_candidate, becomes_seen, becomes_bad, settle}
use Rattle.model.specs.StateInvariant.{IsSettled}
use Rattle.model.specs.laws.Actives.{active_is, active_usable, active_valid, active_kept, can_from, valid-genesis}
use Rattle.model.specs.laws.Candidates.{never_fails, valid_below, first_failure, candidate_gives, candidate_from, on_candidate_gives, on_candidate_from}
use Rattle.model.specs.laws.Tries.{active-flagged, was_on_candidate}

module _ {B I : Type 0} (r : Rules B I) (s : State B) where
  -- settling changes marks and sights alone
  pub settle-blocks : (settle r s).blocks ≡ s.blocks
  unfolding settle
  settle-blocks = refl

  -- it marks no block of a valid branch
  spares : (c x : ℕ) → branch_connects r s.blocks c ≡ true → on s.blocks c x ≡ true → becomes_bad r s x ≡ false
  unfolding becomes_bad
  spares c x v o = false_from_ne_true _ (λ h. never_fails r s.blocks c x v o (and_parts (first_to_fail r s.blocks x) (on_candidate r s x) h).0)

  module _ (z : has_no_mark s 0 ≡ true) where
    pub genesis-settle : has_no_mark (settle r s) 0 ≡ true
    unfolding settle
    genesis-settle = usable-kept s (becomes_bad r s) (becomes_seen r s) 0 z (λ x o. spares 0 x (valid-genesis r s.blocks) o)

    pub active-settle : active r (settle r s) ≡ active r s
    unfolding settle
    active-settle = active-flagged r s (becomes_bad r s) (becomes_seen r s) z spares

    -- what is settled stays
    pub settle_twice : settle r (settle r s) ≡ settle r s
    unfolding settle becomes_bad becomes_seen
    settle_twice =
        let t = with_new_flags s (becomes_bad r s) (becomes_seen r s) in
        let was = was_on_candidate r s (becomes_bad r s) (becomes_seen r s) z spares in
        flagged_twice s (becomes_bad r s) (becomes_seen r s) (becomes_bad r t) (becomes_seen r t)
        ∙ flagged_agree s _ _ _ _
        (λ x l. within (first_to_fail r s.blocks x) (on_candidate r s x) (on_candidate r t x) (was x))
        (λ x l. within (branch_connects r s.blocks x) (on_candidate r s x) (on_candidate r t x) (was x))
      where
        within : (a b c : Bool) → (c ≡ true → b ≡ true) → ((a && b) || (a && c)) ≡ (a && b)
        within false b c f = refl
        within true true c f = refl
        within true false true f = sym (f refl)
        within true false false f = refl

  module _ (sound : IsSettled r s) where
    pub bad_in-order : InOrder (length s.blocks) s.bad
    unfolding settle
    bad_in-order = subst (λ (l : List ℕ). InOrder (length s.blocks) l) (ap (λ (t : State B). t.bad) sound.settled) (in_order-joined (length s.blocks) s.bad (becomes_bad r s))

    pub seen_in-order : InOrder (length s.blocks) s.seen
    unfolding settle
    seen_in-order = subst (λ (l : List ℕ). InOrder (length s.blocks) l) (ap (λ (t : State B). t.seen) sound.settled) (in_order-joined (length s.blocks) s.seen (becomes_seen r s))

    -- nothing is left to mark or to see
    pub marked_all : (x : ℕ) → x ≤ length s.blocks → becomes_bad r s x ≡ true → has s.bad x ≡ true
    unfolding settle
    marked_all x l h =
        ap (λ (t : State B). has t.bad x) (sym sound.settled) ∙ bad-flagged s (becomes_bad r s) (becomes_seen r s) x l
        ∙ or_right (has s.bad x) (becomes_bad r s x) h

    pub seen_all : (x : ℕ) → x ≤ length s.blocks → becomes_seen r s x ≡ true → has s.seen x ≡ true
    unfolding settle
    seen_all x l h =
        ap (λ (t : State B). has t.seen x) (sym sound.settled) ∙ seen-flagged s (becomes_bad r s) (becomes_seen r s) x l
        ∙ or_right (has s.seen x) (becomes_seen r s x) h

    -- the active block is the one candidate
    pub one_candidate : (d : ℕ) → d ≤ length s.blocks → is_candidate r s d ≡ true → d ≡ active r s
    unfolding becomes_bad
    one_candidate d l h =
        let b = candidate_gives r s d h in
        let a = active_is r s sound.genesis in
        elim b.1 [
          | inl e ↦ e
          | inr e ↦ elim (cases_Bool (branch_connects r s.blocks d)) [
            | inl v ↦ elim (a.tops d l (can_from r s d b.0 v)) [ inl w ↦ w | inr w ↦ absurd (better_falls s d (active r s) e w) ]
            | inr v ↦
                let x = first_failure r s.blocks d l v in
                absurd (clash (has s.bad x.0) (marked_all x.0 (on-bounds s.blocks d x.0 x.1).1 (and_from _ _ x.2 (on_candidate_from r s d x.0 l h x.1))) (usable_gives s d x.0 b.0 x.1))
          ]
        ]

    -- and the best of all usable blocks
    pub best_usable : IsBest s (has_no_mark s) (length s.blocks) (active r s)
    best_usable = record {
      kept = active_kept r s sound.genesis;
      can = active_usable r s sound.genesis;
      tops = λ d l u. elim (cases_eq d (active r s)) [
        | inl e ↦ inl e
        | inr n ↦ elim (better_or s d (active r s) n) [
          | inl e ↦ inl (one_candidate d l (candidate_from r s d u (inr e)))
          | inr e ↦ inr e
        ]
      ];
    }

    -- its whole branch was seen
    pub active_seen : (x : ℕ) → on s.blocks (active r s) x ≡ true → has s.seen x ≡ true
    unfolding becomes_seen
    active_seen x o =
        let k = active_kept r s sound.genesis in
        seen_all x (on-bounds s.blocks (active r s) x o).1 (and_from _ _ (valid_below r s.blocks (active r s) x (active_valid r s sound.genesis) o)
        (on_candidate_from r s (active r s) x k (candidate_from r s (active r s) (active_usable r s sound.genesis) (inl refl)) o))

-- a state is settled where its one candidate has a valid branch that was seen
pub settled_where : {B I : Type 0} (r : Rules B I) (t : State B) (a : ℕ) → branch_connects r t.blocks a ≡ true → ((d : ℕ) → d ≤ length t.blocks → is_candidate r t d ≡ true → d ≡ a)
    → ((x : ℕ) → on t.blocks a x ≡ true → has t.seen x ≡ true) → InOrder (length t.blocks) t.bad → InOrder (length t.blocks) t.seen → settle r t ≡ t
unfolding settle becomes_bad becomes_seen
settled_where r t a v only seen b g =
    ap (λ (l : List ℕ). record t { bad = l; seen = union_where (places t.blocks) t.seen (becomes_seen r t) }) (bads ∙ b)
    ∙ ap (λ (l : List ℕ). record t { seen = l }) (sights ∙ g)
  where
    there : (x : ℕ) → on_candidate r t x ≡ true → on t.blocks a x ≡ true
    there x h = let w = on_candidate_gives r t x h in subst (λ (z : ℕ). on t.blocks z x ≡ true) (only w.0 w.1 w.2) w.3

    bads : union_where (places t.blocks) t.bad (becomes_bad r t) ≡ union_where (places t.blocks) t.bad (λ p. false)
    bads = joined_agree (length t.blocks) t.bad (becomes_bad r t) (λ p. false) (λ x l. false_from_ne_true _ (λ h.
        let q = and_parts (first_to_fail r t.blocks x) (on_candidate r t x) h in never_fails r t.blocks a x v (there x q.1) q.0))

    sights : union_where (places t.blocks) t.seen (becomes_seen r t) ≡ union_where (places t.blocks) t.seen (λ p. false)
    sights = joined_within (length t.blocks) t.seen (becomes_seen r t) (λ x l h. seen x (there x (and_parts (branch_connects r t.blocks x) (on_candidate r t x) h).1))
