-- What is prepared for commands, put in place.
use Rattle.std.proofs.Common.{◌≡◌, ℕ, suc, ◌<◌, ◌≤◌, Bool, true, false, cond, not, ◌||◌, ◌&&◌, eqb, List, [], ◌∷◌, length, map, reverse, Some, None, Result, Ok, Err, IfOk, sym, refl, ap, ◌∙◌, subst, inl, inr, arith}
use Rattle.std.specs.Prelude.{if◌then◌else◌}
use Rattle.std.specs.List.{filter}
use Rattle.std.proofs.lemmas.Bool.{cases_eq, ne_eqb}
use Rattle.hash.specs.declared.id.Id.{Id}
use Rattle.block.specs.declared.block.Block.{Block}
use Rattle.coins.specs.Coins.{Coins}
use Rattle.coins.specs.Changes.{Changes, AreChanges}
use Rattle.tree.specs.Branches.{Kept as KeptBlock, Blocks, has, height, on, place_of, down_from}
use Rattle.tree.specs.State.{State, has_no_mark, beats, with_block, with_mark, without_marks, with_call, union_where}
use Rattle.tree.specs.declared.block_index.Mark.{Mark as BlockMark}
use Rattle.tree.specs.Nodes.{AreMarks, IsMark, laid, mark_at}
use Rattle.tree.specs.Names.{names}
use Rattle.tree.specs.Sound.{IsBest}
use Rattle.tree.specs.laws.Branches.{on-bounds, on_there}
use Rattle.tree.specs.laws.Marks.{usable_gives, usable_from, usable-cleared}
use Rattle.tree.specs.laws.Ranks.{better_trans, better-height, better-called, better-others}
use Rattle.tree.specs.laws.Sets.{clash, InOrder, none_above, has-filter, in_order-joined, joined_more, filter_agree, has-joined}
use Rattle.tree.specs.laws.AddedBlock.{blocks-old, usable_new, usable_there, better_there}
use Rattle.activate.specs.declared.plan.Prepared.{Prepared}
use Rattle.activate.specs.declared.plan.Edit.{Edit}
use Rattle.activate.specs.declared.plan.Edit.TheVariants.{Remark}
use Rattle.activate.specs.declared.plan.Completion.{Completion}
use Rattle.activate.specs.declared.plan.Completion.TheVariants.{Nothing, Activate}
use Rattle.model.specs.declared.reply.Reply.{Reply}
use Rattle.model.specs.declared.reply.Reply.TheVariants as reply
use Rattle.model.specs.declared.reply.SubmitReply.{SubmitReply}
use Rattle.model.specs.declared.reply.MarkReply.TheVariants.{Done}
use Rattle.activate.specs.declared.path.Reorganisation.{Reorganisation}
use Rattle.model.specs.Rules.{Rules}
use Rattle.model.specs.Valid.{branch_connects}
use Rattle.model.specs.Settle.{active, settle}
use Rattle.model.specs.Submission.{Outcome, submit_says, answer_added, outcome_of_added}
use Rattle.model.specs.Step.{mark_says}
use Rattle.model.specs.StateInvariant.{IsSettled}
use Rattle.model.specs.Replay.{replay}
use Rattle.model.specs.Regtest.{ledger}
use Rattle.activate.specs.CoreState.{CoreState, coins_after, coins_of}
use Rattle.activate.specs.inside.Preparation.{CanActivate, CanEdit, CanFinish, CanTry, HasOtherMarks, IsOneTry, IsPreparationFor, ChangesNothing, Settles, TriesLead, core_after_activation, core_after_commit, core_after_finish, edited}
use Rattle.model.specs.laws.Actives.{active_kept, active_usable, active_valid}
use Rattle.model.specs.laws.AddedBlock.{valid_there}
use Rattle.model.specs.laws.Ordinary.{active-beside, settle-beside}
use Rattle.model.specs.laws.Precious.{usable-called}
use Rattle.model.specs.laws.SettledState.{active-settle, settle-blocks, best_usable}
use Rattle.model.specs.laws.OneTry.{active-added_bad, active-called_bad, settle-added, settle-called}
use Rattle.model.specs.laws.Tries.{active-best, settle-best, tried-blocks}
use Rattle.activate.specs.Lookups.{undo_at}
use Rattle.activate.specs.inside.Paths.{IsPath, LeadsTo}
use Rattle.activate.proofs.Plans.{no_changes}

-- ---- sets of places

filter_twice : (f g : ℕ → Bool) (l : List ℕ) → filter f (filter g l) ≡ filter (λ x. g x && f x) l
filter_twice f g [] = refl
filter_twice f g (x ∷ l) = either (g x) (filter_twice f g l)
  where
    either : (b : Bool) → filter f (filter g l) ≡ filter (λ y. g y && f y) l → filter f (cond b (x ∷ filter g l) (filter g l)) ≡ cond (b && f x) (x ∷ filter (λ y. g y && f y) l) (filter (λ y. g y && f y) l)
    either true e = ap (λ (q : List ℕ). cond (f x) (x ∷ q) q) e
    either false e = e

or_none : (b : Bool) → (b || false) ≡ b
or_none true = refl
or_none false = refl

-- what passes of a set in order is in order
in_order-filter : (n : ℕ) (set : List ℕ) (f : ℕ → Bool) → InOrder n set → InOrder n (filter f set)
unfolding union_where
in_order-filter n set f order =
    let g : ℕ → Bool = λ x. (has set x || false) && f x in
    let e : ◌≡◌ {A = List ℕ} (filter f set) (filter g (down_from n)) = ap (filter f) (sym order) ∙ filter_twice f (λ x. has set x || false) (down_from n) in
    filter_agree (λ p. has (filter f set) p || false) g n (λ k l. or_none (has (filter f set) k) ∙ ap (λ (q : List ℕ). has q k) e ∙ has-filter g n k l) ∙ sym e

module _ (r : Rules Block Id) where
  -- what is prepared for a command that changes nothing
  pub plan-still : (a : CoreState) (reply : Reply) (prepared : Prepared) (after : Outcome Block) → a.active ≡ active r a.state → ChangesNothing reply prepared → (a.state, reply) ≡ after → IsPreparationFor r a after prepared
  plan-still a reply prepared after act still e =
      let done : core_after_commit r a prepared ≡ a = ap (λ (x : Edit). core_after_finish r (edited a x) prepared.rest) still.edit_is ∙ ap (core_after_finish r a) still.rest_is in
      record {
        outcome_is = ap (λ (x : CoreState). (x.state, prepared.reply)) done ∙ ap (λ (x : Reply). (a.state, x)) still.reply_is ∙ e;
        active_is = ap (λ (x : CoreState). x.active) done ∙ act ∙ sym (ap (λ (x : CoreState). active r x.state) done);
        changes_are = subst (λ (x : CoreState). AreChanges (coins_of a) (coins_of x) prepared.changes) (sym done) (no_changes (coins_of a) prepared.changes still.changes_are);
        ready = record {
          edit = subst (λ (x : Edit). CanEdit a.state x) (sym still.edit_is) tt;
          rest = subst (λ (x : Completion). CanFinish r (edited a prepared.edit) x) (sym still.rest_is) tt;
        };
      }

  -- the tree changes, and then the state is settled
  module _ (a : CoreState) (prepared : Prepared) (can : CanEdit a.state prepared.edit) (settled : Settles r (edited a prepared.edit) prepared.rest prepared.changes) (genesis : has_no_mark (edited a prepared.edit).state 0 ≡ true) where
    pub plan-settled : (after : Outcome Block) → coins_of (edited a prepared.edit) ≡ coins_of a → (settle r (edited a prepared.edit).state, prepared.reply) ≡ after → IsPreparationFor r a after prepared
    plan-settled after coins e = record {
      outcome_is = ap (λ (s : State Block). (s, prepared.reply)) settled.state_is ∙ e;
      active_is = settled.active_is ∙ sym (active-settle r (edited a prepared.edit).state genesis) ∙ sym (ap (active r) settled.state_is);
      changes_are = subst (λ (m : Coins). AreChanges m (coins_of (core_after_commit r a prepared)) prepared.changes) coins settled.changes_are;
      ready = record { edit = can; rest = settled.ready };
    }

  -- marks are to be changed: from s, which has others than a, tries led to t, whose best block is valid
  module _ (a : CoreState) (s t : State Block) (place : ℕ) (found : Reorganisation) (marks : List BlockMark) (can : CanTry r (record a { state = s })) (other : HasOtherMarks a.state s) (lead : TriesLead r a s t)
      (best : IsBest t (has_no_mark t) (length t.blocks) place) (moves : LeadsTo r a.state.blocks a.active place found) (are : AreMarks t marks) (laid_is : laid t marks ≡ t) where
    same_blocks : ◌≡◌ {A = Blocks Block} t.blocks a.state.blocks
    same_blocks = lead.other.blocks_are ∙ other.blocks_are

    same_calls : ◌≡◌ {A = List ℕ} t.precious a.state.precious
    same_calls = lead.other.precious_is ∙ other.precious_is

    -- the marks are laid over a as over t
    over : laid a.state marks ≡ t
    over =
        ap (λ (u : Blocks Block). laid (record a.state { blocks = u }) marks) (sym same_blocks)
        ∙ ap (λ (l : List ℕ). laid (record t { precious = l }) marks) (sym same_calls) ∙ laid_is

    over_marks : AreMarks a.state marks
    over_marks =
        let k = ap (λ (u : Blocks Block). length u) same_blocks in record {
          count = are.count ∙ ap (λ (n : ℕ). suc n) k;
          genesis = are.genesis;
          right = λ p h. subst (λ (u : State Block). IsMark u p (mark_at marks p)) (laid_is ∙ sym over) (are.right p (omega arith));
        }

    good : branch_connects r t.blocks place ≡ true
    good = subst (λ (u : Blocks Block). branch_connects r u place ≡ true) (sym same_blocks) moves.good

    pub plan-marks : IsPreparationFor r a (mark_says (settle r s) Done) (record { reply = reply.Mark Done; edit = Remark marks; rest = Activate place found.path found.undo; changes = found.changes })
    plan-marks =
        let end : CoreState = core_after_activation r (record a { state = laid a.state marks }) place found.path in
        let done : end ≡ core_after_activation r (record a { state = t }) place found.path = ap (λ (u : State Block). core_after_activation r (record a { state = u }) place found.path) over in
        let state : end.state ≡ settle r s = ap (λ (x : CoreState). x.state) done ∙ sym (settle-best r t place lead.can.genesis best good) ∙ lead.settles in
        record {
          outcome_is = ap (λ (u : State Block). (u, reply.Mark Done)) state;
          active_is =
              ap (λ (x : CoreState). x.active) done ∙ sym (active-best r t place lead.can.genesis best good) ∙ lead.active_is
              ∙ sym (active-settle r s can.genesis) ∙ sym (ap (active r) state);
          changes_are =
              subst (λ (x : CoreState). AreChanges (coins_of a) (coins_of x) found.changes) (sym done)
              (subst (λ (u : Blocks Block). AreChanges (coins_of a) (coins_after u place) found.changes) (sym (tried-blocks r t place ∙ same_blocks)) moves.changes);
          ready = record {
            edit = over_marks;
            rest = subst (λ (u : State Block). CanActivate r (record a { state = u }) place found.path found.undo) (sym over) (record {
              can = lead.can;
              kept = best.kept;
              is_way = subst (λ (u : Blocks Block). IsPath u a.active place found.path) (sym same_blocks) moves.path;
              good = good;
              undo_is = moves.undo ∙ ap (λ (u : Blocks Block). reverse (map (undo_at u) found.path.up.items)) (sym same_blocks);
            });
          };
        }

  -- ---- what is right after something was first done to the tree

  pub can-marked : (a : CoreState) (p : ℕ) → 0 < p → CanTry r a → CanTry r (record a { state = with_mark a.state p })
  can-marked a p z can = record {
    genesis = usable_from (with_mark a.state p) 0 (λ x o.
        let l = (on-bounds a.state.blocks 0 x o).0 in
        has-joined (length a.state.blocks) a.state.bad (λ y. eqb y p) x (omega arith) ∙ neither (has a.state.bad x) (eqb x p) (usable_gives a.state 0 x can.genesis o) (not_same x p (omega arith)));
    kept = can.kept;
    all = can.all;
    good = can.good;
    seen = can.seen;
    bad_in_order = in_order-joined (length a.state.blocks) a.state.bad (λ y. eqb y p);
    seen_in_order = can.seen_in_order;
  }
    where
      neither : (a b : Bool) → a ≡ false → b ≡ false → (a || b) ≡ false
      neither false false e f = refl
      neither false true e f = f
      neither true b e f = e

      not_same : (x y : ℕ) → x < y → eqb x y ≡ false
      not_same x y l = ne_eqb x y (λ e. omega arith)

  pub can-cleared : (a : CoreState) (p : ℕ) → CanTry r a → CanTry r (record a { state = without_marks a.state p })
  unfolding without_marks
  can-cleared a p can = record {
    genesis = (unfold without_marks in usable-cleared a.state p 0 can.genesis);
    kept = can.kept;
    all = can.all;
    good = can.good;
    seen = can.seen;
    bad_in_order = in_order-filter (length a.state.blocks) a.state.bad (λ x. not (on a.state.blocks p x || on a.state.blocks x p)) can.bad_in_order;
    seen_in_order = can.seen_in_order;
  }

  pub can-called : (a : CoreState) (p : ℕ) → CanTry r a → CanTry r (record a { state = with_call a.state p })
  can-called a p can = record {
    genesis = usable-called r a.state p 0 ∙ can.genesis;
    kept = can.kept;
    all = can.all;
    good = can.good;
    seen = can.seen;
    bad_in_order = can.bad_in_order;
    seen_in_order = can.seen_in_order;
  }

  -- a block was added
  module _ (a : CoreState) (sound : IsSettled r a.state) (b : Block) (p : ℕ) (can : CanTry r a) (alone : r.alone_fault b ≡ None) (parent : p ≤ length a.state.blocks)
      (new : place_of r.names a.state.blocks (r.names.id_of b) ≡ None) (named : place_of r.names a.state.blocks (r.names.parent_of b) ≡ Some p) where
    pub can-added : CanTry r (record a { state = with_block a.state b p })
    can-added = record {
      genesis = usable_there a.state (record { block = b; parent = p }) 0 (omega arith) ∙ can.genesis;
      kept = (let k = can.kept in omega arith);
      all = (record { alone = alone; unknown = new; parent = named }, can.all);
      good = valid_there r (record { block = b; parent = p }) a.state.blocks a.active can.kept ∙ can.good;
      seen = λ x o. can.seen x (sym (on_there (record { block = b; parent = p }) a.state.blocks a.active x (let k = can.kept in omega arith)) ∙ o);
      bad_in_order = joined_more (length a.state.blocks) a.state.bad can.bad_in_order;
      seen_in_order = joined_more (length a.state.blocks) a.state.seen can.seen_in_order;
    }

    -- it is the best usable one where it is better than the active one
    pub best-added : a.active ≡ active r a.state → has_no_mark a.state p ≡ true → beats (with_block a.state b p) (suc (length a.state.blocks)) a.active ≡ true
        → IsBest (with_block a.state b p) (has_no_mark (with_block a.state b p)) (length (with_block a.state b p).blocks) (suc (length a.state.blocks))
    best-added act u above =
        let k : KeptBlock Block = record { block = b; parent = p } in
        let n : ℕ = length a.state.blocks in
        let t : State Block = with_block a.state b p in
        record {
          kept = omega arith;
          can = usable_new a.state k (none_above n a.state.bad can.bad_in_order (suc n) (omega arith)) ∙ u;
          tops = λ d l v. elim (cases_eq d (suc n)) [
            | inl e ↦ inl e
            | inr e ↦
                let m : d ≤ n = omega arith in
                inr (elim ((best_usable r a.state sound).tops d m (sym (usable_there a.state k d m) ∙ v)) [
                  | inl w ↦ subst (λ (z : ℕ). beats t (suc n) z ≡ true) (act ∙ sym w) above
                  | inr w ↦ better_trans t (suc n) a.active d above (better_there a.state k a.active d can.kept m ∙ subst (λ (z : ℕ). beats a.state z d ≡ true) (sym act) w)
                ])
          ];
        }

    -- and then its one try settles the state
    pub one-try-added : a.active ≡ active r a.state → IsBest (with_block a.state b p) (has_no_mark (with_block a.state b p)) (length (with_block a.state b p).blocks) (suc (length a.state.blocks))
        → IsOneTry r (record a { state = with_block a.state b p }) (suc (length a.state.blocks))
    one-try-added act best = record { settles = settle-added r a.state sound b p best; stays = λ bad. active-added_bad r a.state sound b p best bad ∙ sym act }

    pub coins-added : coins_of (record a { state = with_block a.state b p }) ≡ coins_of a
    coins-added = ap (λ (l : List Block). replay ledger l) (blocks-old names (record { block = b; parent = p }) a.state.blocks a.active can.kept)

    -- where it isn't better than the active one, it settles nothing
    pub settles-beside : a.active ≡ active r a.state → beats (with_block a.state b p) (suc (length a.state.blocks)) (active r a.state) ≡ false → (changes : Changes) → changes ≡ []
        → Settles r (record a { state = with_block a.state b p }) Nothing changes
    settles-beside act lower changes none = record {
      state_is = sym (settle-beside r a.state sound b p lower);
      active_is = act ∙ sym (active-beside r a.state sound b p lower);
      changes_are = no_changes (coins_of (record a { state = with_block a.state b p })) changes none;
      ready = tt;
    }

    -- the answer to it, as settling leaves it
    pub says-added : (said : SubmitReply) → said ≡ answer_added r (settle r (with_block a.state b p)) (suc (length a.state.blocks))
        → (settle r (with_block a.state b p), reply.Submit said) ≡ outcome_of_added r (settle r (with_block a.state b p))
    says-added said e =
        ap (submit_says (settle r (with_block a.state b p))) (e ∙ ap (λ (t : Blocks Block). answer_added r (settle r (with_block a.state b p)) (length t)) (sym (settle-blocks r (with_block a.state b p))))

pub if_ok : {V E : Type 0} {P Q : V → Type 0} (o : Result V E) → ((x : V) → P x → Q x) → IfOk o P → IfOk o Q
if_ok (Ok x) f p = f x p
if_ok (Err e) f p = tt

-- ---- a block is called precious

module _ (r : Rules Block Id) (a : CoreState) (sound : IsSettled r a.state) (act : a.active ≡ active r a.state) (p : ℕ) (kept : p ≤ length a.state.blocks) (high : height a.state.blocks a.active ≤ height a.state.blocks p) where
  abbrev t : State Block
  t = with_call a.state p

  not_above : (d : ℕ) → d ≤ length a.state.blocks → has_no_mark a.state d ≡ true → height a.state.blocks d ≤ height a.state.blocks p
  not_above d l u =
      let e = ap (height a.state.blocks) act in
      elim ((best_usable r a.state sound).tops d l u) [
        | inl w ↦ let f = ap (height a.state.blocks) w in omega arith
        | inr w ↦ let f = better-height a.state (active r a.state) d w in omega arith
      ]

  called-usable : has_no_mark a.state p ≡ true → IsBest t (has_no_mark t) (length t.blocks) p
  called-usable u = record {
    kept = kept;
    can = usable-called r a.state p p ∙ u;
    tops = λ d l v. elim (cases_eq d p) [
      | inl e ↦ inl e
      | inr e ↦ inr (better-called a.state p d (λ w. e (sym w)) (not_above d l (sym (usable-called r a.state p d) ∙ v)))
    ];
  }

  called-other : has_no_mark a.state p ≡ false → IsBest t (has_no_mark t) (length t.blocks) a.active
  called-other u = record {
    kept = subst (λ (z : ℕ). z ≤ length a.state.blocks) (sym act) (active_kept r a.state sound.genesis);
    can = usable-called r a.state p a.active ∙ usable_here;
    tops = λ d l v.
        let w : has_no_mark a.state d ≡ true = sym (usable-called r a.state p d) ∙ v in
        elim ((best_usable r a.state sound).tops d l w) [
          | inl e ↦ inl (e ∙ sym act)
          | inr e ↦ inr (better-others a.state p a.active d (λ z. clash (has_no_mark a.state p) (subst (λ (y : ℕ). has_no_mark a.state y ≡ true) (sym z) usable_here) u) (λ z. clash (has_no_mark a.state p) (subst (λ (y : ℕ). has_no_mark a.state y ≡ true) (sym z) w) u)
              ∙ subst (λ (y : ℕ). beats a.state y d ≡ true) (sym act) e)
        ];
  }
    where
      usable_here : has_no_mark a.state a.active ≡ true
      usable_here = subst (λ (z : ℕ). has_no_mark a.state z ≡ true) (sym act) (active_usable r a.state sound.genesis)

  -- the block, or the active one where it can't be
  pub best-called : (first : ℕ) → first ≡ (if has_no_mark a.state p then p else a.active) → IsBest t (has_no_mark t) (length t.blocks) first
  best-called first e = subst (λ (x : ℕ). IsBest t (has_no_mark t) (length t.blocks) x) (sym e) (either (has_no_mark a.state p) refl)
    where
      either : (b : Bool) → has_no_mark a.state p ≡ b → IsBest t (has_no_mark t) (length t.blocks) (if b then p else a.active)
      either true u = called-usable u
      either false u = called-other u

  -- whose one try settles the state: the active one is valid
  pub one-try-called : (first : ℕ) → first ≡ (if has_no_mark a.state p then p else a.active) → IsOneTry r (record a { state = t }) first
  one-try-called first e = subst (λ (x : ℕ). IsOneTry r (record a { state = t }) x) (sym e) (either (has_no_mark a.state p) refl)
    where
      either : (b : Bool) → has_no_mark a.state p ≡ b → IsOneTry r (record a { state = t }) (if b then p else a.active)
      either true u = record { settles = settle-called r a.state sound p (called-usable u); stays = λ bad. active-called_bad r a.state sound p (called-usable u) bad ∙ sym act }
      either false u =
          let valid : branch_connects r a.state.blocks a.active ≡ true = subst (λ (z : ℕ). branch_connects r a.state.blocks z ≡ true) (sym act) (active_valid r a.state sound.genesis) in
          record { settles = settle-best r t a.active (usable-called r a.state p 0 ∙ sound.genesis) (called-other u) valid; stays = λ bad. absurd (clash _ valid bad) }
