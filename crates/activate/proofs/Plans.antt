-- What tries do to the state between a command and its settled state.
use Rattle.std.proofs.Common.{◌≡◌, ℕ, ◌+◌, ◌<◌, ◌≤◌, Bool, true, false, cond, ◌||◌, ◌&&◌, List, [], ◌∷◌, ◌++◌, length, reverse, sym, refl, ap, ◌∙◌, subst, inl, inr, ◌⊎◌, arith}
use Rattle.std.specs.List.Sorted.{IsStrictlySortedBy}
use Rattle.std.proofs.lemmas.Bool.{or_left, cases_eq, eq-eqb, ne_eqb, false_from_ne_true, and_parts}
use Rattle.std.proofs.lemmas.List.{append_assoc, reverse-append, reverse-reverse, length-reverse, length-append}
use Rattle.hash.specs.declared.id.Id.{Id}
use Rattle.block.specs.declared.block.Block.{Block}
use Rattle.coins.specs.Coins.{Coins}
use Rattle.coins.specs.Changes.{Changes, AreChanges}
use Rattle.tree.specs.Branches.{Blocks, first_of, rest_of, has, on, parent_at}
use Rattle.tree.specs.State.{State, has_no_mark}
use Rattle.tree.specs.Sound.{IsBest}
use Rattle.tree.specs.laws.Branches.{on-bounds, on-itself}
use Rattle.tree.specs.laws.Marks.{bad-flagged, seen-flagged, usable_gives}
use Rattle.tree.specs.laws.Parents.{parent-below, on-rest}
use Rattle.tree.specs.laws.Sets.{has_here, has_there, in_order-joined}
use Rattle.tree.specs.laws.Above.{above, above-end, above-step}
use Rattle.activate.specs.declared.plan.Completion.{Completion}
use Rattle.activate.specs.declared.plan.Completion.TheVariants.{Flag, Activate}
use Rattle.model.specs.declared.reply.SubmitReply.TheVariants.{Accepted, Inconclusive, Rejected}
use Rattle.activate.specs.declared.path.FailedTry.{FailedTry}
use Rattle.activate.specs.declared.path.Reorganisation.{Reorganisation}
use Rattle.model.specs.Rules.{Rules}
use Rattle.model.specs.Valid.{fault, branch_connects, first_to_fail}
use Rattle.model.specs.Settle.{active, settle, on_candidate, becomes_bad, becomes_seen}
use Rattle.model.specs.Submission.{answer_added, reply_by_reason}
use Rattle.model.specs.Try.{fails_on, passes_on, state_after_try}
use Rattle.model.specs.StateInvariant.{IsSettled, AllKept}
use Rattle.activate.specs.CoreState.{CoreState, coins_after, coins_of}
use Rattle.activate.specs.inside.Paths.{LeadsTo, FailsAt}
use Rattle.activate.specs.inside.Preparation.{IsOneTry, TriesLead, CanTry, Settles, reply_to_failed_try}
use Rattle.model.specs.laws.Actives.{active_kept, active_valid}
use Rattle.model.specs.laws.Candidates.{never_fails, same_first, on_candidate_from}
use Rattle.activate.specs.laws.TryNotes.{above-on}
use Rattle.model.specs.laws.SettledState.{active-settle, settle-blocks, active_seen, bad_in-order, seen_in-order}
use Rattle.model.specs.laws.Tries.{tried-blocks, tried-precious, genesis-tried, active-tried, settle-tried, best-candidate, active-best, settle-best, was_on_candidate, count_without_mark, unmarked-tried}

module _ (r : Rules Block Id) where
  -- a followed chainstate can be tried
  pub can-follows : (c : CoreState) → IsSettled r c.state → AllKept r c.state.blocks → c.active ≡ active r c.state → CanTry r c
  can-follows c sound all e = record {
    genesis = sound.genesis;
    kept = subst (λ (p : ℕ). p ≤ length c.state.blocks) (sym e) (active_kept r c.state sound.genesis);
    all = all;
    good = subst (λ (p : ℕ). branch_connects r c.state.blocks p ≡ true) (sym e) (active_valid r c.state sound.genesis);
    seen = λ x o. active_seen r c.state sound x (subst (λ (p : ℕ). on c.state.blocks p x ≡ true) e o);
    bad_in_order = bad_in-order r c.state sound;
    seen_in_order = seen_in-order r c.state sound;
  }

  -- what a try leaves can be tried again
  pub can-tried : (c : CoreState) (p : ℕ) → CanTry r c → CanTry r (record c { state = state_after_try r c.state p })
  unfolding state_after_try
  can-tried c p can = record {
    genesis = (unfold state_after_try in genesis-tried r c.state p can.genesis);
    kept = can.kept;
    all = can.all;
    good = can.good;
    seen = λ x o.
        seen-flagged c.state (fails_on r c.state.blocks p) (passes_on r c.state.blocks p) x (on-bounds c.state.blocks c.active x o).1
        ∙ or_left (has c.state.seen x) (passes_on r c.state.blocks p x) (can.seen x o);
    bad_in_order = in_order-joined (length c.state.blocks) c.state.bad (fails_on r c.state.blocks p);
    seen_in_order = in_order-joined (length c.state.blocks) c.state.seen (passes_on r c.state.blocks p);
  }

-- ---- tries under other marks

module _ (r : Rules Block Id) (c : CoreState) where
  pub tries_none : (s : State Block) → CanTry r (record c { state = s }) → TriesLead r c s s
  tries_none s can = record { other = record { blocks_are = refl; precious_is = refl }; can = can; settles = refl; active_is = refl; candidates = λ x was. was }

  -- what is on a candidate's branch after a try was so before
  candidates-tried : (t : State Block) (p : ℕ) → has_no_mark t 0 ≡ true → (x : ℕ) → on_candidate r (state_after_try r t p) x ≡ true → on_candidate r t x ≡ true
  unfolding state_after_try fails_on
  candidates-tried t p genesis x was =
      let marks = fails_on r t.blocks p in
      was_on_candidate r t marks (passes_on r t.blocks p) genesis
      (λ d y v o. false_from_ne_true (marks y) (λ h. never_fails r t.blocks d y v o (and_parts (first_to_fail r t.blocks y) (on t.blocks p y) h).0)) x was

  module _ (s t : State Block) (p : ℕ) (best : IsBest t (has_no_mark t) (length t.blocks) p) where
    -- a try that failed keeps what settling gives
    pub tries_more : TriesLead r c s t → TriesLead r c s (state_after_try r t p)
    tries_more lead = record {
      other = record { blocks_are = tried-blocks r t p ∙ lead.other.blocks_are; precious_is = tried-precious r t p ∙ lead.other.precious_is };
      can = can-tried r (record c { state = t }) p lead.can;
      settles = settle-tried r t p lead.can.genesis best.kept (best-candidate r t p lead.can.genesis best) ∙ lead.settles;
      active_is = active-tried r t p lead.can.genesis ∙ lead.active_is;
      candidates = λ x was. lead.candidates x (candidates-tried t p lead.can.genesis x was);
    }

    -- and leaves fewer blocks unmarked
    pub fewer-unmarked : (failed : FailedTry) → FailsAt r t.blocks c.active p failed → count_without_mark (state_after_try r t p) < count_without_mark t
    fewer-unmarked failed fails =
        unmarked-tried r t p best.kept best.can
        (false_from_ne_true (branch_connects r t.blocks p) (λ v. never_fails r t.blocks p fails.stop.place v fails.stop.first.on fails.stop.first.first))

-- ---- settling

-- nothing changes
pub no_changes : (m : Coins) (cs : Changes) → cs ≡ [] → AreChanges m m cs
unfolding IsStrictlySortedBy
no_changes m cs e = subst (λ (x : Changes). AreChanges m m x) (sym e) (record { in_order = tt; differ = λ q w n. absurd (cc); others = λ q n. refl })

-- one try, of a block that is valid
pub settles_valid : (r : Rules Block Id) (a : CoreState) (p : ℕ) (move : Reorganisation) → CanTry r a → IsBest a.state (has_no_mark a.state) (length a.state.blocks) p → LeadsTo r a.state.blocks a.active p move → (rest : Completion) → rest ≡ Activate p move.path move.undo → Settles r a rest move.changes
settles_valid r a p move can best moves rest go =
    subst (λ (x : Completion). Settles r a x move.changes) (sym go) (record {
      state_is = sym (settle-best r a.state p can.genesis best moves.good);
      active_is = sym (active-best r a.state p can.genesis best moves.good);
      changes_are = subst (λ (t : Blocks Block). AreChanges (coins_of a) (coins_after t p) move.changes) (sym (tried-blocks r a.state p)) moves.changes;
      ready = record { can = can; kept = best.kept; is_way = moves.path; good = moves.good; undo_is = moves.undo };
    })

-- and of one that isn't: no coin changes
pub settles_failed : (r : Rules Block Id) (a : CoreState) (p : ℕ) (failed : FailedTry) → CanTry r a → p ≤ length a.state.blocks → IsOneTry r a p → FailsAt r a.state.blocks a.active p failed
    → (rest : Completion) → rest ≡ Flag p failed → (changes : Changes) → changes ≡ [] → Settles r a rest changes
settles_failed r a p failed can kept one fails rest go changes none =
    subst (λ (x : Completion). Settles r a x changes) (sym go) (record {
      state_is = sym one.settles;
      active_is = sym (one.stays (false_from_ne_true (branch_connects r a.state.blocks p) (λ v. never_fails r a.state.blocks p fails.stop.place v fails.stop.first.on fails.stop.first.first)));
      changes_are =
          subst (λ (t : Blocks Block). AreChanges (coins_of a) (coins_after t a.active) changes) (sym (tried-blocks r a.state p))
          (no_changes (coins_of a) changes none);
      ready = record { can = can; kept = kept; fails = fails };
    })

-- ---- what is said of the block that was tried

module _ (r : Rules Block Id) (a : CoreState) (can : CanTry r a) (p : ℕ) (best : IsBest a.state (has_no_mark a.state) (length a.state.blocks) p) where
  abbrev after : State Block
  after = settle r a.state

  active_after : active r after ≡ active r a.state
  active_after = active-settle r a.state can.genesis

  pub said-once : branch_connects r a.state.blocks p ≡ true → Accepted ≡ answer_added r after p
  unfolding answer_added
  said-once v =
      sym (ap (λ (b : Bool). cond b Accepted (cond (has after.bad p) (reply_by_reason (fault r after.blocks p)) Inconclusive))
      (eq-eqb p (active r after) (sym (active_after ∙ active-best r a.state p can.genesis best v))))

  module _ (failed : FailedTry) (fails : FailsAt r a.state.blocks a.active p failed) where
    not_valid : branch_connects r a.state.blocks p ≡ true → ⊥
    not_valid v = never_fails r a.state.blocks p fails.stop.place v fails.stop.first.on fails.stop.first.first

    other : p ≡ active r after → ⊥
    other e = not_valid (subst (λ (x : ℕ). branch_connects r a.state.blocks x ≡ true) (sym (e ∙ active_after)) (active_valid r a.state can.genesis))

    bad_now : has after.bad p ≡ first_to_fail r a.state.blocks p
    unfolding settle becomes_bad
    bad_now =
        bad-flagged a.state (becomes_bad r a.state) (becomes_seen r a.state) p best.kept
        ∙ ap (λ (b : Bool). b || (first_to_fail r a.state.blocks p && on_candidate r a.state p)) (usable_gives a.state p p best.can (on-itself a.state.blocks p best.kept))
        ∙ ap (λ (b : Bool). first_to_fail r a.state.blocks p && b)
        (on_candidate_from r a.state p p best.kept (best-candidate r a.state p can.genesis best) (on-itself a.state.blocks p best.kept))
        ∙ and_true (first_to_fail r a.state.blocks p)
      where
        and_true : (b : Bool) → (b && true) ≡ b
        and_true true = refl
        and_true false = refl

    answer : answer_added r after p ≡ cond (first_to_fail r a.state.blocks p) (reply_by_reason (fault r a.state.blocks p)) Inconclusive
    unfolding answer_added
    answer =
        ap (λ (b : Bool). cond b Accepted (cond (has after.bad p) (reply_by_reason (fault r after.blocks p)) Inconclusive)) (ne_eqb p (active r after) other)
        ∙ ap (λ (b : Bool). cond b (reply_by_reason (fault r after.blocks p)) Inconclusive) bad_now
        ∙ ap (λ (t : Blocks Block). cond (first_to_fail r a.state.blocks p) (reply_by_reason (fault r t p)) Inconclusive) (settle-blocks r a.state)

    -- the path up ends at the block, so the first that doesn't connect is the block itself where none is left above it
    up : ◌≡◌ {A = List ℕ} (above a.state.blocks p failed.path.fork) (reverse fails.stop.rest ++ (fails.stop.place ∷ reverse fails.stop.front))
    up =
        sym fails.path.up ∙ sym (reverse-reverse failed.path.up.items) ∙ ap (λ (l : List ℕ). reverse l) fails.stop.parts
        ∙ reverse-append fails.stop.front (fails.stop.place ∷ fails.stop.rest)
        ∙ turned fails.stop.rest fails.stop.place (reverse fails.stop.front)
      where
        turned : (l : List ℕ) (x : ℕ) (k : List ℕ) → reverse (x ∷ l) ++ k ≡ reverse l ++ (x ∷ k)
        turned l x k = ap (λ (m : List ℕ). m ++ k) (reverse-append (x ∷ []) l) ∙ append_assoc (reverse l) (x ∷ []) k

    higher : failed.path.fork < p
    higher =
        elim (cases_eq p failed.path.fork) [
          | inl e ↦
              let none : ◌≡◌ {A = List ℕ} [] (above a.state.blocks p failed.path.fork) = sym (above-end a.state.blocks p best.kept) ∙ ap (above a.state.blocks p) e in
              absurd (nothing-in (reverse fails.stop.rest) fails.stop.place (reverse fails.stop.front) (none ∙ up))
          | inr n ↦ let l = on-bounds a.state.blocks p failed.path.fork fails.path.shared.there in omega arith
        ]
      where
        nothing-in : (k : List ℕ) (x : ℕ) (l : List ℕ) → ◌≡◌ {A = List ℕ} [] (k ++ (x ∷ l)) → ⊥
        nothing-in [] x l e = cc
        nothing-in (y ∷ k) x l e = cc

    which : (q k : List ℕ) → above a.state.blocks p failed.path.fork ≡ q ++ (fails.stop.place ∷ k) → ((length q ≡ 0) × (p ≡ fails.stop.place)) ⊎ ((0 < length q) × (fails.stop.place < p))
    which [] k e = inl (refl, ap first_of (sym (above-step a.state.blocks p failed.path.fork higher best.kept) ∙ e))
    which (z ∷ q) k e =
        let t : Blocks Block = a.state.blocks in
        let below = parent-below t p (omega (arith, higher)) best.kept in
        let others : above t (parent_at t p) failed.path.fork ≡ q ++ (fails.stop.place ∷ k) = ap rest_of (sym (above-step t p failed.path.fork higher best.kept) ∙ e) in
        let there : on t (parent_at t p) failed.path.fork ≡ true = on-rest t p (omega (arith, higher)) best.kept failed.path.fork fails.path.shared.there (λ w. let h = higher in omega arith) in
        let o = above-on t failed.path.fork (parent_at t p) fails.stop.place (omega (arith, best.kept)) there (ap (λ (l : List ℕ). has l fails.stop.place) others ∙ among q k) in
        let l = (on-bounds t (parent_at t p) fails.stop.place o).0 in
        inr (omega arith, omega arith)
      where
        among : (q k : List ℕ) → has (q ++ (fails.stop.place ∷ k)) fails.stop.place ≡ true
        among [] k = has_here fails.stop.place k
        among (y ∷ q) k = has_there y fails.stop.place (q ++ (fails.stop.place ∷ k)) (among q k)

    sizes : length failed.path.up.items ≡ failed.passed + 1 + length fails.stop.rest
    sizes =
        let n = sym (length-reverse failed.path.up.items) ∙ ap (λ (l : List ℕ). length l) fails.stop.parts ∙ length-append fails.stop.front (fails.stop.place ∷ fails.stop.rest) in
        let m = fails.stop.counted in
        omega arith

    pub passed-less : failed.passed < length failed.path.up.items
    passed-less = let n = sizes in omega arith

    pub said-after : reply_to_failed_try failed ≡ answer_added r after p
    unfolding reply_to_failed_try
    said-after =
        elim (which (reverse fails.stop.rest) (reverse fails.stop.front) up) [
          | inl w ↦
              let none : length fails.stop.rest ≡ 0 = sym (length-reverse fails.stop.rest) ∙ w.0 in
              let n = sizes in
              ap (λ (b : Bool). cond b (Rejected failed.reason) Inconclusive) (eq-eqb (failed.passed + 1) (length failed.path.up.items) (omega arith))
              ∙ ap reply_by_reason (sym (ap (fault r a.state.blocks) w.1 ∙ fails.stop.broken))
              ∙ ap (λ (b : Bool). cond b (reply_by_reason (fault r a.state.blocks p)) Inconclusive) (sym (ap (first_to_fail r a.state.blocks) w.1 ∙ fails.stop.first.first))
              ∙ sym answer
          | inr w ↦
              let some = length-reverse fails.stop.rest in
              let n = sizes in
              ap (λ (b : Bool). cond b (Rejected failed.reason) Inconclusive) (ne_eqb (failed.passed + 1) (length failed.path.up.items) (λ e. let z = w.0 in omega arith))
              ∙ ap (λ (b : Bool). cond b (reply_by_reason (fault r a.state.blocks p)) Inconclusive)
              (sym (false_from_ne_true (first_to_fail r a.state.blocks p) (λ h.
              let e : p ≡ fails.stop.place = same_first r a.state.blocks p p fails.stop.place (on-itself a.state.blocks p best.kept) fails.stop.first.on h fails.stop.first.first in
              let l = w.1 in omega arith)))
              ∙ sym answer
        ]
