-- How much undo is kept where another block becomes active.
use Rattle.std.proofs.Common.{◌≡◌, ℕ, suc, ◌+◌, ◌-◌, ◌<◌, ◌≤◌, List, [], ◌∷◌, length, Bool, true, cond, refl, inl, inr, sym, ap, ◌∙◌, subst, arith}
use Rattle.std.proofs.lemmas.Bool.{ne_eqb}
use Rattle.std.proofs.lemmas.Bool.Decides.{leb_tells}
use Rattle.hash.specs.declared.id.Id.{Id}
use Rattle.block.specs.declared.block.Block.{Block}
use Rattle.coins.specs.declared.coin.Coin.{Coin}
use Rattle.tree.specs.Branches.{Blocks, first_of, rest_of, branch, before, height, on, parent_at}
use Rattle.tree.specs.Tips.{last_shared}
use Rattle.tree.specs.laws.Above.{above, above-end, above-step, IsShared, last-shared}
use Rattle.tree.specs.laws.Branches.{on-bounds, on-itself}
use Rattle.tree.specs.laws.Parents.{on-parent, parent-below}
use Rattle.tree.specs.laws.Walks.{shared_here}
use Rattle.activate.specs.declared.path.BranchPath.{BranchPath}
use Rattle.activate.specs.declared.plan.Prepared.{Prepared}
use Rattle.activate.specs.declared.plan.Completion.{Completion}
use Rattle.activate.specs.declared.plan.Completion.TheVariants.{Nothing, Flag, Activate}
use Rattle.signatures.specs.Triple.{Triples}
use Rattle.model.specs.declared.command.Command.{Command}
use Rattle.model.specs.Regtest.{regtest}
use Rattle.model.specs.Rules.{Rules}
use Rattle.model.specs.Try.{state_after_try}
use Rattle.model.specs.Submission.{Outcome}
use Rattle.model.specs.laws.Actives.{active_kept}
use Rattle.model.specs.laws.Tries.{tried-blocks}
use Rattle.activate.specs.CoreState.{CoreState, Follows, HasOneMore, UndoFollows, lesser_of, most_undo}
use Rattle.activate.specs.inside.Paths.{IsPath}
use Rattle.activate.specs.inside.Preparation.{CanActivate, CanFinish, IsPreparation, IsPreparationFor, core_after_activation, core_after_commit, core_after_finish, edited, undo_after}
use Rattle.activate.specs.laws.OtherBranch.{come}
use Rattle.activate.proofs.Outcomes.{follows-plan}

-- the path to a block on the active one
module _ (t : Blocks Block) (a p : ℕ) (path : BranchPath) (is : IsPath t a p path) (kept : p ≤ length t) (some : 0 < p) (parent : parent_at t p ≡ a) where
  below : a < p
  below = let e = parent-below t p some kept in omega arith

  there : on t p a ≡ true
  there = subst (λ (q : ℕ). on t p q ≡ true) parent (on-parent t p some kept)

  -- its fork is the active block
  fork_is : path.fork ≡ a
  fork_is =
      let low = (on-bounds t a path.fork is.shared.here).0 in
      let high = (on-bounds t path.fork a (is.shared.last a (on-itself t a (omega (arith, below))) there)).0 in
      omega arith

  one_up : length path.up.items ≡ 1
  one_up =
      ap (λ (l : List ℕ). length l) (is.up ∙ ap (above t p) fork_is ∙ above-step t p a below kept ∙ ap (λ (q : ℕ). p ∷ above t q a) parent
      ∙ ap (λ (l : List ℕ). p ∷ l) (above-end t a (omega (arith, below))))

  pub one-more : (kept_undo : ℕ) → undo_after t a kept_undo path ≡ lesser_of most_undo (suc kept_undo)
  one-more n =
      let e = is.high ∙ ap (height t) fork_is in
      let f = one_up in
      ap (lesser_of most_undo) {x = (n - (height t a - path.height)) + length path.up.items} {y = suc n} (omega arith)

-- what isn't kept has no branch but genesis
no-branch : (t : Blocks Block) (p : ℕ) → length t < p → ◌≡◌ {A = List ℕ} (branch t p) (0 ∷ [])
unfolding branch
no-branch [] p h = refl
no-branch (k ∷ older) p h =
    ap (λ (b : Bool). cond b (p ∷ branch older k.parent) (branch older p)) (ne_eqb (suc (length older)) p (λ e. omega arith)) ∙ no-branch older p (omega arith)

below-itself : (t : Blocks Block) (p : ℕ) → 0 < p → parent_at t p < p
below-itself t p z =
    elim (leb_tells p (length t)) [
      | inl h ↦ parent-below t p z h.1
      | inr h ↦
          let e : parent_at t p ≡ 0 = unfold parent_at before in ap (λ (l : List ℕ). first_of (rest_of l)) (no-branch t p h.1) in
          omega arith
    ]

own_parent : (t : Blocks Block) (a p : ℕ) → p ≡ a → 0 < p → parent_at t p ≡ a → ⊥
own_parent t a p e z h = let l = below-itself t p z in omega arith

after-activation : (r : Rules Block Id) (a b : CoreState) (p : ℕ) (path : BranchPath) (undo : List (List (List Coin))) → CanActivate r b p path undo → b.active ≡ a.active → b.undo_kept ≡ a.undo_kept → HasOneMore a (core_after_activation r b p path)
after-activation r a b p path undo ready same kept z h =
    let t = b.state.blocks in
    let parent : parent_at t p ≡ b.active = ap (λ (u : Blocks Block). parent_at u p) (sym (tried-blocks r b.state p)) ∙ h ∙ sym same in
    one-more t b.active p path ready.is_way ready.kept z parent b.undo_kept ∙ ap (λ (n : ℕ). lesser_of most_undo (suc n)) kept

after-finish : (r : Rules Block Id) (a b : CoreState) (rest : Completion) → CanFinish r b rest → b.active ≡ a.active → b.undo_kept ≡ a.undo_kept → HasOneMore a (core_after_finish r b rest)
after-finish r a b Nothing ready same kept z h = absurd (own_parent b.state.blocks a.active b.active same z h)
after-finish r a b (Flag p failed) ready same kept z h =
    absurd (own_parent b.state.blocks a.active b.active same z (ap (λ (t : Blocks Block). parent_at t b.active) (sym (tried-blocks r b.state p)) ∙ h))
after-finish r a b (Activate p path undo) ready same kept z h = after-activation r a b p path undo ready same kept z h

pub more-undo : (r : Rules Block Id) (a : CoreState) (after : Outcome Block) (prepared : Prepared) → IsPreparationFor r a after prepared → HasOneMore a (core_after_commit r a prepared)
more-undo r a after prepared is = after-finish r a (edited a prepared.edit) prepared.rest is.ready.rest refl refl

-- ---- where any block becomes active

-- two last blocks of the same branches are one
same-shared : (t : Blocks Block) (a p f g : ℕ) → IsShared t a p f → IsShared t a p g → f ≡ g
same-shared t a p f g one other =
    let low = (on-bounds t f g (one.last g other.here other.there)).0 in
    let high = (on-bounds t g f (other.last f one.here one.there)).0 in
    omega arith

-- along a path
along : (t : Blocks Block) (a p n : ℕ) (path : BranchPath) → a ≤ length t → p ≤ length t → IsPath t a p path
    → undo_after t a n path ≡ lesser_of most_undo ((n - (height t a - height t (last_shared t a p))) + (height t p - height t (last_shared t a p)))
along t a p n path h k is =
    let e = is.high ∙ ap (height t) (same-shared t a p path.fork (last_shared t a p) is.shared (last-shared t a p k)) in
    let c = come t a p h k path is in
    ap (lesser_of most_undo) {x = (n - (height t a - path.height)) + length path.up.items} {y = (n - (height t a - height t (last_shared t a p))) + (height t p - height t (last_shared t a p))} (omega arith)

-- where the active block stays
lesser-few : (n : ℕ) → n ≤ most_undo → lesser_of most_undo n ≡ n
lesser-few n few = elim (leb_tells most_undo n) [
  | inl h ↦ ap (λ (b : Bool). cond b most_undo n) h.0 ∙ omega (arith, h.1)
  | inr h ↦ ap (λ (b : Bool). cond b most_undo n) h.0
]

stays : (t : Blocks Block) (a n : ℕ) → a ≤ length t → n ≤ most_undo
    → n ≡ lesser_of most_undo ((n - (height t a - height t (last_shared t a a))) + (height t a - height t (last_shared t a a)))
stays t a n h few =
    let e = ap (height t) (shared_here t a a h (on-itself t a h)) in
    sym (lesser-few n few) ∙ ap (lesser_of most_undo) {x = n} {y = (n - (height t a - height t (last_shared t a a))) + (height t a - height t (last_shared t a a))} (omega arith)

module _ (a : CoreState) (few : a.undo_kept ≤ most_undo) where
  moved : (r : Rules Block Id) (b : CoreState) (p : ℕ) (path : BranchPath) (undo : List (List (List Coin))) → b.active ≡ a.active → b.undo_kept ≡ a.undo_kept → CanActivate r b p path undo → UndoFollows a (core_after_activation r b p path)
  moved r b p path undo same kept ready =
      along b.state.blocks b.active p b.undo_kept path ready.can.kept ready.kept ready.is_way
      ∙ ap (λ (x : ℕ). lesser_of most_undo ((b.undo_kept - (height b.state.blocks x - height b.state.blocks (last_shared b.state.blocks x p))) + (height b.state.blocks p - height b.state.blocks (last_shared b.state.blocks x p)))) same
      ∙ ap (λ (n : ℕ). lesser_of most_undo ((n - (height b.state.blocks a.active - height b.state.blocks (last_shared b.state.blocks a.active p))) + (height b.state.blocks p - height b.state.blocks (last_shared b.state.blocks a.active p)))) kept
      ∙ ap (λ (u : Blocks Block). lesser_of most_undo ((a.undo_kept - (height u a.active - height u (last_shared u a.active p))) + (height u p - height u (last_shared u a.active p)))) (sym (tried-blocks r b.state p))

  left-by : (r : Rules Block Id) (b : CoreState) (rest : Completion) → b.active ≡ a.active → b.undo_kept ≡ a.undo_kept → CanFinish r b rest → (core_after_finish r b rest).active ≤ length (core_after_finish r b rest).state.blocks → UndoFollows a (core_after_finish r b rest)
  left-by r b Nothing same kept ready high =
      kept ∙ stays b.state.blocks a.active a.undo_kept (omega (arith, high, same)) few
      ∙ ap (λ (p : ℕ). lesser_of most_undo ((a.undo_kept - (height b.state.blocks a.active - height b.state.blocks (last_shared b.state.blocks a.active p))) + (height b.state.blocks p - height b.state.blocks (last_shared b.state.blocks a.active p)))) (sym same)
  left-by r b (Flag p failed) same kept ready high = same_blocks (state_after_try r b.state p).blocks (tried-blocks r b.state p) high
    where
      same_blocks : (t : Blocks Block) → ◌≡◌ {A = Blocks Block} t b.state.blocks → b.active ≤ length t
          → b.undo_kept ≡ lesser_of most_undo ((a.undo_kept - (height t a.active - height t (last_shared t a.active b.active))) + (height t b.active - height t (last_shared t a.active b.active)))
      same_blocks t e l =
          kept ∙ stays t a.active a.undo_kept (omega (arith, l, same)) few
          ∙ ap (λ (x : ℕ). lesser_of most_undo ((a.undo_kept - (height t a.active - height t (last_shared t a.active x))) + (height t x - height t (last_shared t a.active x)))) (sym same)
  left-by r b (Activate p path undo) same kept ready high = moved r b p path undo same kept ready

-- how much undo stands after a command
pub undo-follows : (a : CoreState) (triples : Triples) (c : Command) (prepared : Prepared) → Follows a triples → IsPreparation (regtest a.params triples) a c prepared → a.undo_kept ≤ most_undo
    → UndoFollows a (core_after_commit (regtest a.params triples) a prepared)
undo-follows a triples c prepared follows is few =
    let r = regtest a.params triples in
    let f : CoreState = core_after_commit r a prepared in
    let after = (follows-plan a triples c prepared follows is).1 in
    let high : f.active ≤ length f.state.blocks = subst (λ (p : ℕ). p ≤ length f.state.blocks) (sym after.active_is) (active_kept (regtest f.params triples) f.state after.sound.genesis) in
    left-by a few r (edited a prepared.edit) prepared.rest refl refl is.ready.rest high

-- what is kept is few, as is told
pub few-of : (told n : ℕ) → told ≡ n → told ≤ most_undo → n ≤ most_undo
few-of told n is few = omega arith
