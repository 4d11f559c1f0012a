-- What changes the state, and that it stays right.
use Rattle.std.proofs.Common.{◌≡◌, ℕ, suc, ◌<◌, ◌≤◌, Bool, true, false, not, ◌&&◌, ◌||◌, eqb, List, [], ◌∷◌, ◌++◌, length, reverse, get_or, None, sym, refl, ap, ◌∙◌, subst, inl, inr, arith, Some}
use Rattle.std.proofs.Math.ListN.{set, get_or-append}
use Rattle.std.proofs.Math.Seq.{get_or-append_seam}
use Rattle.std.proofs.lemmas.Bool.{cases_eq, eq-eqb, ne_eqb}
use Rattle.std.proofs.lemmas.List.{length-append, length-set, reverse-append}
use Rattle.block.specs.declared.block.Block.{Block}
use Rattle.block.specs.Identity.{id_of}
use Rattle.signatures.specs.Triple.{Triples}
use Rattle.rules.specs.declared.params.Params.{Params}
use Rattle.rules.specs.Alone.{alone_rules}
use Rattle.txn.specs.First.{first_broken}
use Rattle.tree.specs.Branches.{Kept, Blocks, down_from, on, before, branch, place_of, parent_at, block_at, id_at}
use Rattle.tree.specs.State.{opening, with_mark, without_marks, with_call, with_block}
use Rattle.tree.specs.Names.{names}
use Rattle.tree.specs.Limits.{max_blocks}
use Rattle.tree.specs.laws.AddedBlock.{place-bound, blocks-old, blocks-new, id_there, id_here, block_there, block_here}
use Rattle.tree.specs.laws.Branches.{parent_there, parent_here}
use Rattle.reference.specs.declared.kept_block.KeptBlock.{KeptBlock}
use Rattle.reference.specs.declared.judgement.Judgement.{Judgement}
use Rattle.reference.specs.declared.state.Replayed.{Replayed}
use Rattle.model.specs.Settle.{active, on_candidate, becomes_seen, becomes_bad, settle}
use Rattle.model.specs.Valid.{branch_connects, first_to_fail}
use Rattle.model.specs.Regtest.{regtest}
use Rattle.model.specs.StateInvariant.{AllKept}
use Rattle.reference.specs.inside.Replay.{IsRight, IsKeptBlock, AreKeptBlocks, AreTried, AreJudgements, blocks_before, kept_of, blocks_of, first_kept, state_of_replayed, is_flagged, places_of, judgement_in, no_judgement, is_near, is_valid, is_first, any_below, trial_on}
use Rattle.reference.proofs.BranchReplay.{trial-zero}
use Rattle.reference.proofs.KeptBlocks.{length-blocks, blocks-push}
use Rattle.reference.proofs.Flags.{places-joined, places-taken, places-push, flag_set, flag_push-zero}
use Rattle.reference.proofs.States.{made, first-is, valid-is, on_near, first-never}

-- a state with the same blocks is right where its flags are
pub still_right : (params : Params) (triples : Triples) (old new : Replayed) → IsRight (regtest params triples) old → new.held ≡ old.held → length new.bad.items ≡ length old.held.items → length new.seen.items ≡ length old.held.items
    → is_flagged new.bad.items 0 ≡ false → IsRight (regtest params triples) new
still_right params triples old new right h b s g = record {
  some = subst (λ v. 0 < length v.items) (sym h) right.some;
  room = subst (λ v. length v.items ≤ max_blocks) (sym h) right.room;
  held = subst (λ v. AreKeptBlocks (blocks_of v.items) v.items) (sym h) right.held;
  tried = subst (λ v. AreTried (regtest params triples) (blocks_of v.items) v.items) (sym h) right.tried;
  kept = subst (λ v. AllKept (regtest params triples) (blocks_of v.items)) (sym h) right.kept;
  bad = b ∙ ap (λ v. length v.items) (sym h);
  seen = s ∙ ap (λ v. length v.items) (sym h);
  genesis = g;
}

-- ---- settling

module _ (params : Params) (triples : Triples) (old new : Replayed) (right : IsRight (regtest params triples) old)
    (judged : List Judgement) (are : AreJudgements (regtest params triples) (state_of_replayed old) judged) (a : ℕ) (is : a ≡ active (regtest params triples) (state_of_replayed old)) (kept : a < length old.held.items)
    (near : List Bool) (near_is : (x : ℕ) → x < length old.held.items → is_flagged near x ≡ any_below (λ c. is_near judged a c && on (blocks_of old.held.items) c x) (length old.held.items)) where
  long : suc (length (blocks_of old.held.items)) ≡ length old.held.items
  long = length-blocks old.held.items right.some

  near_on : (x : ℕ) → x < length old.held.items → is_flagged near x ≡ on_candidate (regtest params triples) (state_of_replayed old) x
  unfolding state_of_replayed
  near_on x h =
      let l = long in
      near_is x h ∙ ap (any_below (λ c. is_near judged a c && on (blocks_of old.held.items) c x)) (sym l)
      ∙ on_near params triples (state_of_replayed old) judged are a is (omega arith) x

  module _ (held : new.held ≡ old.held) (calls : new.calls ≡ old.calls) (same_bad : length new.bad.items ≡ length old.held.items) (same_seen : length new.seen.items ≡ length old.held.items)
      (bad : (x : ℕ) → x < length old.held.items → is_flagged new.bad.items x ≡ (is_flagged old.bad.items x || (is_first (judgement_in judged x).trial && is_flagged near x)))
      (seen : (x : ℕ) → x < length old.held.items → is_flagged new.seen.items x ≡ (is_flagged old.seen.items x || (is_valid (judgement_in judged x).trial && is_flagged near x))) where
    pub settle_state : state_of_replayed new ≡ settle (regtest params triples) (state_of_replayed old)
    unfolding state_of_replayed settle becomes_bad becomes_seen
    settle_state =
        let l = long in
        let b = right.bad in
        let s = right.seen in
        made new (ap (λ v. blocks_of v.items) held)
        (places-joined (length (blocks_of old.held.items)) old.bad.items new.bad.items (becomes_bad (regtest params triples) (state_of_replayed old)) (omega arith) (omega arith)
        (λ p h. bad p (omega arith) ∙ ap (λ v. is_flagged old.bad.items p || (v && is_flagged near p)) (first-is params triples (state_of_replayed old) judged are p no_judgement (omega arith))
        ∙ ap (λ v. is_flagged old.bad.items p || (first_to_fail (regtest params triples) (state_of_replayed old).blocks p && v)) (near_on p (omega arith))))
        (places-joined (length (blocks_of old.held.items)) old.seen.items new.seen.items (becomes_seen (regtest params triples) (state_of_replayed old)) (omega arith) (omega arith)
        (λ p h. seen p (omega arith) ∙ ap (λ v. is_flagged old.seen.items p || (v && is_flagged near p)) (valid-is params triples (state_of_replayed old) judged are p no_judgement (omega arith))
        ∙ ap (λ v. is_flagged old.seen.items p || (branch_connects (regtest params triples) (state_of_replayed old).blocks p && v)) (near_on p (omega arith))))
        (ap (λ v. reverse v.items) calls)

    pub settle_right : IsRight (regtest params triples) new
    settle_right =
        let z = right.some in
        still_right params triples old new right held same_bad same_seen
        (bad 0 (omega arith) ∙ ap (λ v. v || (is_first (judgement_in judged 0).trial && is_flagged near 0)) right.genesis ∙ ap (λ v. v && is_flagged near 0) (first-never params triples (state_of_replayed old) judged are no_judgement))

-- ---- marks and calls

eqb-sym : (p q : ℕ) → eqb p q ≡ eqb q p
eqb-sym p q =
    elim (cases_eq p q) [
      | inl e ↦ eq-eqb p q e ∙ sym (eq-eqb q p (sym e))
      | inr e ↦ ne_eqb p q e ∙ sym (ne_eqb q p (λ f. e (sym f)))
    ]

module _ (params : Params) (triples : Triples) (old new : Replayed) (right : IsRight (regtest params triples) old) (p : ℕ) where
  pub mark_state : p < length old.held.items → new.held ≡ old.held → new.seen ≡ old.seen → new.calls ≡ old.calls → ◌≡◌ {A = List Bool} new.bad.items (set old.bad.items p true) → state_of_replayed new ≡ with_mark (state_of_replayed old) p
  unfolding state_of_replayed
  mark_state h held seen calls e =
      let l = length-blocks old.held.items right.some in
      let b = right.bad in
      let w = length-set old.bad.items p true in
      let n = ap (λ (k : List Bool). length k) e in
      made new (ap (λ v. blocks_of v.items) held)
      (places-joined (length (blocks_of old.held.items)) old.bad.items new.bad.items (λ x. eqb x p) (omega arith) (omega arith)
      (λ x g. ap (λ (k : List Bool). is_flagged k x) e ∙ flag_set old.bad.items p x (omega arith) ∙ ap (λ v. is_flagged old.bad.items x || v) (eqb-sym p x)))
      (ap (λ v. places_of v.items) seen) (ap (λ v. reverse v.items) calls)

  pub mark_right : 0 < p → p < length old.held.items → new.held ≡ old.held → new.seen ≡ old.seen → ◌≡◌ {A = List Bool} new.bad.items (set old.bad.items p true) → IsRight (regtest params triples) new
  mark_right z h held seen e =
      let b = right.bad in
      let w = length-set old.bad.items p true in
      let n = ap (λ (k : List Bool). length k) e in
      still_right params triples old new right held (omega arith) (ap (λ v. length v.items) seen ∙ right.seen)
      (ap (λ (k : List Bool). is_flagged k 0) e ∙ flag_set old.bad.items p 0 (omega arith) ∙ ap (λ v. is_flagged old.bad.items 0 || v) (ne_eqb p 0 (omega arith)) ∙ ap (λ v. v || false) right.genesis)

  pub clear_state : new.held ≡ old.held → new.seen ≡ old.seen → new.calls ≡ old.calls → length new.bad.items ≡ length old.bad.items
      → ((x : ℕ) → x < length old.held.items → is_flagged new.bad.items x ≡ (is_flagged old.bad.items x && not (on (blocks_of old.held.items) p x || on (blocks_of old.held.items) x p))) → state_of_replayed new ≡ without_marks (state_of_replayed old) p
  unfolding state_of_replayed without_marks
  clear_state held seen calls same taken =
      let l = length-blocks old.held.items right.some in
      let b = right.bad in
      made new (ap (λ v. blocks_of v.items) held)
      (places-taken (length (blocks_of old.held.items)) old.bad.items new.bad.items (λ x. not (on (blocks_of old.held.items) p x || on (blocks_of old.held.items) x p)) (omega arith) (omega arith) (λ x g. taken x (omega arith)))
      (ap (λ v. places_of v.items) seen) (ap (λ v. reverse v.items) calls)

  pub clear_right : new.held ≡ old.held → new.seen ≡ old.seen → length new.bad.items ≡ length old.bad.items
      → ((x : ℕ) → x < length old.held.items → is_flagged new.bad.items x ≡ (is_flagged old.bad.items x && not (on (blocks_of old.held.items) p x || on (blocks_of old.held.items) x p))) → IsRight (regtest params triples) new
  clear_right held seen same taken =
      let z = right.some in
      still_right params triples old new right held (same ∙ right.bad) (ap (λ v. length v.items) seen ∙ right.seen)
      (taken 0 (omega arith) ∙ ap (λ v. v && not (on (blocks_of old.held.items) p 0 || on (blocks_of old.held.items) 0 p)) right.genesis)

  pub call_state : new.held ≡ old.held → new.seen ≡ old.seen → new.bad ≡ old.bad → ◌≡◌ {A = List ℕ} new.calls.items (old.calls.items ++ p ∷ []) → state_of_replayed new ≡ with_call (state_of_replayed old) p
  unfolding state_of_replayed
  call_state held seen bad e =
      made new (ap (λ v. blocks_of v.items) held) (ap (λ v. places_of v.items) bad) (ap (λ v. places_of v.items) seen)
      (ap (λ (k : List ℕ). reverse k) e ∙ reverse-append old.calls.items (p ∷ []))

-- ---- a block more

module _ (params : Params) (triples : Triples) (old new : Replayed) (right : IsRight (regtest params triples) old) (n : KeptBlock)
    (held : ◌≡◌ {A = List KeptBlock} new.held.items (old.held.items ++ n ∷ [])) (bad : ◌≡◌ {A = List Bool} new.bad.items (old.bad.items ++ false ∷ []))
    (seen : ◌≡◌ {A = List Bool} new.seen.items (old.seen.items ++ false ∷ [])) (calls : new.calls ≡ old.calls) where
  abbrev t : Blocks Block
  t = blocks_of old.held.items

  pub add_state : state_of_replayed new ≡ with_block (state_of_replayed old) n.block n.parent
  unfolding state_of_replayed
  add_state =
      let z = right.some in
      let b = right.bad in
      let s = right.seen in
      made new (ap (λ (k : List KeptBlock). blocks_of k) held ∙ blocks-push old.held.items n right.some)
      (ap (λ (k : List Bool). places_of k) bad ∙ places-push old.bad.items (omega arith))
      (ap (λ (k : List Bool). places_of k) seen ∙ places-push old.seen.items (omega arith))
      (ap (λ v. reverse v.items) calls)

  held_there : (k : Kept Block) (p : ℕ) (h : KeptBlock) → p ≤ length t → IsKeptBlock t p h → IsKeptBlock (k ∷ t) p h
  held_there k p h l is = record {
    block = is.block ∙ sym (block_there names k t p l);
    id = is.id ∙ sym (id_there names k t p l);
    parent = is.parent ∙ sym (parent_there k t p l);
  }

  module _ (id : n.id ≡ id_of n.block.header) (named : place_of names t n.block.header.prev ≡ Some n.parent) where
    held_here : IsKeptBlock (kept_of n ∷ t) (suc (length t)) n
    held_here =
        let l = length-blocks old.held.items right.some in
        let b = place-bound names t n.block.header.prev n.parent named in
        record {
          block = sym (block_here names (kept_of n) t);
          id = id ∙ sym (id_here names (kept_of n) t);
          parent = sym (parent_here (kept_of n) t (omega arith));
        }

    held_more : AreKeptBlocks (kept_of n ∷ t) (old.held.items ++ n ∷ [])
    held_more p d h =
        let e = length-append old.held.items (n ∷ []) in
        let g = length-blocks old.held.items right.some in
        elim (cases_eq p (length old.held.items)) [
          | inl w ↦
              subst (λ (q : ℕ). IsKeptBlock (kept_of n ∷ t) q (get_or (old.held.items ++ n ∷ []) q d)) (sym w)
              (subst (IsKeptBlock (kept_of n ∷ t) (length old.held.items)) (sym (get_or-append_seam old.held.items n [] d)) (subst (λ (q : ℕ). IsKeptBlock (kept_of n ∷ t) q n) g held_here))
          | inr w ↦ subst (IsKeptBlock (kept_of n ∷ t) p) (sym (get_or-append old.held.items (n ∷ []) d p (omega arith))) (held_there (kept_of n) p (get_or old.held.items p d) (omega arith) (right.held p d (omega arith)))
        ]

    -- what was found of each
    tried_more : n.trial ≡ trial_on (regtest params triples) (n.block ∷ blocks_before t n.parent) → AreTried (regtest params triples) (kept_of n ∷ t) (old.held.items ++ n ∷ [])
    tried_more is p d h =
        let e = length-append old.held.items (n ∷ []) in
        let g = length-blocks old.held.items right.some in
        elim (cases_eq p (length old.held.items)) [
          | inl w ↦
              ap (λ (q : ℕ). (get_or (old.held.items ++ n ∷ []) q d).trial) w
              ∙ ap (λ (k : KeptBlock). k.trial) (get_or-append_seam old.held.items n [] d)
              ∙ is
              ∙ ap (λ (l : List Block). trial_on (regtest params triples) l) (sym (blocks-new names (kept_of n) t))
              ∙ ap (λ (q : ℕ). trial_on (regtest params triples) (blocks_before (kept_of n ∷ t) q)) (g ∙ sym w)
          | inr w ↦
              ap (λ (k : KeptBlock). k.trial) (get_or-append old.held.items (n ∷ []) d p (omega arith))
              ∙ right.tried p d (omega arith)
              ∙ ap (λ (l : List Block). trial_on (regtest params triples) l) (sym (blocks-old names (kept_of n) t p (omega arith)))
        ]

    pub add_right : n.trial ≡ trial_on (regtest params triples) (n.block ∷ blocks_before t n.parent) → length old.held.items < max_blocks → place_of names (state_of_replayed old).blocks n.id ≡ None → first_broken (alone_rules n.block) ≡ None → IsRight (regtest params triples) new
    unfolding state_of_replayed
    add_right is room new_id alone =
        let z = right.some in
        let g = length-blocks old.held.items right.some in
        let b = right.bad in
        let s = right.seen in
        let e = length-append old.held.items (n ∷ []) in
        let f = length-append old.bad.items (false ∷ []) in
        let i = length-append old.seen.items (false ∷ []) in
        let hl = ap (λ (k : List KeptBlock). length k) held in
        let bl = ap (λ (k : List Bool). length k) bad in
        let sl = ap (λ (k : List Bool). length k) seen in
        let push : ◌≡◌ {A = Blocks Block} (blocks_of new.held.items) (kept_of n ∷ t) = ap (λ (k : List KeptBlock). blocks_of k) held ∙ blocks-push old.held.items n right.some in
        record {
          some = omega arith;
          room = omega arith;
          held = subst (λ (k : Blocks Block). AreKeptBlocks k new.held.items) (sym push) (subst (λ (k : List KeptBlock). AreKeptBlocks (kept_of n ∷ t) k) (sym held) held_more);
          tried = subst (λ (k : Blocks Block). AreTried (regtest params triples) k new.held.items) (sym push) (subst (λ (k : List KeptBlock). AreTried (regtest params triples) (kept_of n ∷ t) k) (sym held) (tried_more is));
          kept = subst (λ (k : Blocks Block). AllKept (regtest params triples) k) (sym push) (record { alone = alone; unknown = ap (place_of names t) (sym id) ∙ new_id; parent = named }, right.kept);
          bad = omega arith;
          seen = omega arith;
          genesis = ap (λ (k : List Bool). is_flagged k 0) bad ∙ flag_push-zero old.bad.items (omega arith) ∙ right.genesis;
        }

-- ---- genesis

module _ (params : Params) (triples : Triples) (old : Replayed) (held : ◌≡◌ {A = List KeptBlock} old.held.items (first_kept ∷ [])) (bad : ◌≡◌ {A = List Bool} old.bad.items (false ∷ []))
    (seen : ◌≡◌ {A = List Bool} old.seen.items (true ∷ [])) (calls : ◌≡◌ {A = List ℕ} old.calls.items []) where
  pub first_state : state_of_replayed old ≡ opening
  unfolding blocks_of places_of down_from
  first_state = made old (ap (λ (k : List KeptBlock). blocks_of k) held) (ap (λ (k : List Bool). places_of k) bad) (ap (λ (k : List Bool). places_of k) seen) (ap (λ (k : List ℕ). reverse k) calls)

  pub first_right : IsRight (regtest params triples) old
  unfolding blocks_of branch before block_at id_at parent_at
  first_right =
      let hl = ap (λ (k : List KeptBlock). length k) held in
      let bl = ap (λ (k : List Bool). length k) bad in
      let sl = ap (λ (k : List Bool). length k) seen in
      record {
        some = omega arith;
        room = omega arith;
        held = subst (λ (k : List KeptBlock). AreKeptBlocks (blocks_of k) k) (sym held) (λ p d h. at_zero p d (omega arith));
        tried = subst (λ (k : List KeptBlock). AreTried (regtest params triples) (blocks_of k) k) (sym held) (λ p d h. tried_zero p d (omega arith));
        kept = subst (λ (k : List KeptBlock). AllKept (regtest params triples) (blocks_of k)) (sym held) tt;
        bad = omega arith;
        seen = omega arith;
        genesis = ap (λ (k : List Bool). is_flagged k 0) bad;
      }
    where
      at_zero : (p : ℕ) (d : KeptBlock) → p ≡ 0 → IsKeptBlock [] p (get_or (first_kept ∷ []) p d)
      at_zero p d e = subst (λ (q : ℕ). IsKeptBlock [] q (get_or (first_kept ∷ []) q d)) (sym e) (record { block = refl; id = refl; parent = refl })

      tried_zero : (p : ℕ) (d : KeptBlock) → p ≡ 0 → (get_or (first_kept ∷ []) p d).trial ≡ trial_on (regtest params triples) (blocks_before [] p)
      tried_zero p d e = ap (λ (q : ℕ). (get_or (first_kept ∷ []) q d).trial) e ∙ sym (trial-zero params triples []) ∙ ap (λ (q : ℕ). trial_on (regtest params triples) (blocks_before [] q)) (sym e)
