-- Marks: what one spoils, and what new ones leave as it was.
use Rattle.std.proofs.Common.{◌≡◌, ℕ, ◌<◌, ◌≤◌, Bool, true, false, not, ◌&&◌, ◌||◌, List, length, sym, refl, ap, ◌∙◌}
use Rattle.std.specs.List.{list_all}
use Rattle.std.proofs.lemmas.Bool.{or_parts, or_from, not-true, not-false, not_from_false, true≢false, false_from_ne_true}
use Rattle.tree.specs.Branches.{has, branch, on, places, parent_at}
use Rattle.tree.specs.State.{State, union_where, with_new_flags, without_marks, has_no_mark, rank, beats}
use Rattle.tree.specs.laws.Sets.{clash, all_gives, all_from, all_fails, filter_gives, has-joined, joined_twice, joined_agree}
use Rattle.tree.specs.laws.Branches.{on-bounds, branch-genesis}
use Rattle.tree.specs.laws.Parents.{branch-parent}

module _ {B : Type 0} (s : State B) where
  -- a branch is usable exactly where none of it is marked
  pub usable_gives : (c x : ℕ) → has_no_mark s c ≡ true → on s.blocks c x ≡ true → has s.bad x ≡ false
  unfolding has_no_mark on
  usable_gives c x h o = not-true (has s.bad x) (all_gives (λ y. not (has s.bad y)) (branch s.blocks c) h x o)

  pub usable_from : (c : ℕ) → ((x : ℕ) → on s.blocks c x ≡ true → has s.bad x ≡ false) → has_no_mark s c ≡ true
  unfolding has_no_mark on
  usable_from c f = all_from (λ y. not (has s.bad y)) (branch s.blocks c) (λ x o. not_from_false (has s.bad x) (f x o))

  pub spoiled : (c : ℕ) → has_no_mark s c ≡ false → (x : ℕ) × (on s.blocks c x ≡ true) × (has s.bad x ≡ true)
  unfolding has_no_mark on
  spoiled c h = let g = all_fails (λ y. not (has s.bad y)) (branch s.blocks c) h in (g.0, g.1, not-false (has s.bad g.0) g.2)

  -- a block's branch is usable where it isn't marked and its parent's branch is
  pub usable-parent : (p : ℕ) → 0 < p → p ≤ length s.blocks → has_no_mark s p ≡ (not (has s.bad p) && has_no_mark s (parent_at s.blocks p))
  unfolding has_no_mark
  usable-parent p z h = ap (list_all (λ x. not (has s.bad x))) (branch-parent s.blocks p z h)

  pub usable-genesis : has_no_mark s 0 ≡ (not (has s.bad 0) && true)
  unfolding has_no_mark
  usable-genesis = ap (list_all (λ x. not (has s.bad x))) (branch-genesis s.blocks)

-- new marks and sights
module _ {B : Type 0} (s : State B) (f g : ℕ → Bool) where
  pub bad-flagged : (x : ℕ) → x ≤ length s.blocks → has (with_new_flags s f g).bad x ≡ (has s.bad x || f x)
  bad-flagged x h = has-joined (length s.blocks) s.bad f x h

  pub seen-flagged : (x : ℕ) → x ≤ length s.blocks → has (with_new_flags s f g).seen x ≡ (has s.seen x || g x)
  seen-flagged x h = has-joined (length s.blocks) s.seen g x h

  -- leave which block is better
  pub better-flagged : (a b : ℕ) → beats (with_new_flags s f g) a b ≡ beats s a b
  unfolding beats rank
  better-flagged a b = refl

  pub usable-weaker : (c : ℕ) → has_no_mark (with_new_flags s f g) c ≡ true → has_no_mark s c ≡ true
  usable-weaker c h =
      usable_from s c (λ x o. (or_parts (has s.bad x) (f x) (sym (bad-flagged x (on-bounds s.blocks c x o).1) ∙ usable_gives (with_new_flags s f g) c x h o)).0)

  pub usable-kept : (c : ℕ) → has_no_mark s c ≡ true → ((x : ℕ) → on s.blocks c x ≡ true → f x ≡ false) → has_no_mark (with_new_flags s f g) c ≡ true
  usable-kept c h none =
      usable_from (with_new_flags s f g) c (λ x o. bad-flagged x (on-bounds s.blocks c x o).1 ∙ or_from (has s.bad x) (f x) (usable_gives s c x h o) (none x o))

  -- a branch that the new marks spoil has one of them
  pub spoiled-flagged : (c : ℕ) → has_no_mark s c ≡ true → has_no_mark (with_new_flags s f g) c ≡ false → (x : ℕ) × (on s.blocks c x ≡ true) × (f x ≡ true)
  spoiled-flagged c h n =
      let w = spoiled (with_new_flags s f g) c n in
      (w.0, w.1, new (has s.bad w.0) (f w.0) (usable_gives s c w.0 h w.1) (sym (bad-flagged w.0 (on-bounds s.blocks c w.0 w.1).1) ∙ w.2))
    where
      new : (a b : Bool) → a ≡ false → (a || b) ≡ true → b ≡ true
      new true b e q = absurd (true≢false e)
      new false b e q = q

-- marks laid on marks
pub flagged_twice : {B : Type 0} (s : State B) (f g h i : ℕ → Bool) → with_new_flags (with_new_flags s f g) h i ≡ with_new_flags s (λ p. f p || h p) (λ p. g p || i p)
flagged_twice s f g h i =
    ap (λ (l : List ℕ). record s { bad = l; seen = union_where (places s.blocks) (union_where (places s.blocks) s.seen g) i }) (joined_twice (length s.blocks) s.bad f h)
    ∙ ap (λ (l : List ℕ). record s { bad = union_where (places s.blocks) s.bad (λ p. f p || h p); seen = l }) (joined_twice (length s.blocks) s.seen g i)

pub flagged_agree : {B : Type 0} (s : State B) (f g h i : ℕ → Bool) → ((p : ℕ) → p ≤ length s.blocks → f p ≡ h p) → ((p : ℕ) → p ≤ length s.blocks → g p ≡ i p) → with_new_flags s f g ≡ with_new_flags s h i
flagged_agree s f g h i a b =
    ap (λ (l : List ℕ). record s { bad = l; seen = union_where (places s.blocks) s.seen g }) (joined_agree (length s.blocks) s.bad f h a)
    ∙ ap (λ (l : List ℕ). record s { bad = union_where (places s.blocks) s.bad h; seen = l }) (joined_agree (length s.blocks) s.seen g i b)

-- a branch that was usable is so after marks are taken
pub usable-cleared : {B : Type 0} (s : State B) (p c : ℕ) → has_no_mark s c ≡ true → has_no_mark (without_marks s p) c ≡ true
unfolding without_marks
usable-cleared s p c h =
    usable_from (without_marks s p) c (λ x o. false_from_ne_true _ (λ e. clash (has s.bad x) (filter_gives (λ y. not (on s.blocks p y || on s.blocks y p)) s.bad x e).0 (usable_gives s c x h o)))
