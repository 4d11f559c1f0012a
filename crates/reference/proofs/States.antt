-- The state that is shown, and what changes it.
use Rattle.std.proofs.Common.{◌≡◌, ℕ, suc, ◌-◌, ◌<◌, ◌≤◌, true, false, not, ◌&&◌, ◌||◌, eqb, List, length, reverse, get_or, sym, ap, ◌∙◌, arith}
use Rattle.std.specs.List.{list_all}
use Rattle.hash.specs.declared.id.Id.{Id}
use Rattle.block.specs.declared.block.Block.{Block}
use Rattle.signatures.specs.Triple.{Triples}
use Rattle.rules.specs.declared.params.Params.{Params}
use Rattle.tree.specs.Branches.{Blocks, has, branch, on, height, blocks_at}
use Rattle.tree.specs.State.{State, has_no_mark, beats}
use Rattle.txn.specs.First.{first_broken}
use Rattle.rules.specs.Alone.{alone_rules}
use Rattle.tree.specs.Names.{names}
use Rattle.tree.specs.laws.Parents.{height-place}
use Rattle.tree.specs.laws.Sets.{clash, all_agree}
use Rattle.tree.specs.laws.Marks.{usable_from}
use Rattle.tree.specs.laws.Branches.{on-bounds}
use Rattle.reference.specs.declared.judgement.Judgement.{Judgement}
use Rattle.reference.specs.declared.state.Replayed.{Replayed}
use Rattle.model.specs.Rules.{Rules}
use Rattle.model.specs.Valid.{branch_connects, first_to_fail}
use Rattle.model.specs.Settle.{can_be_active, active, is_candidate, on_candidate}
use Rattle.model.specs.Regtest.{regtest}
use Rattle.reference.specs.inside.Replay.{IsRight, AreAlone, AreJudgements, blocks_of, blocks_in, state_of_replayed, is_flagged, places_of, judgement_at, judgement_in, no_judgement, above, is_near, is_valid, is_first, any_below}
use Rattle.model.specs.laws.Kept.{alone-at}
use Rattle.reference.proofs.KeptBlocks.{length-blocks, branch_kept, branch_later, branch_length, block-held, blocks-held}
use Rattle.reference.proofs.Flags.{has-places, any-down, any-agree}
use Rattle.reference.proofs.BranchReplay.{trial-valid, trial-first}

-- a state from its parts
pub made : (old : Replayed) {t : Blocks Block} {bad seen precious : List ℕ} → blocks_of old.held.items ≡ t → places_of old.bad.items ≡ bad → places_of old.seen.items ≡ seen → reverse old.calls.items ≡ precious
    → state_of_replayed old ≡ record { blocks = t; bad = bad; seen = seen; precious = precious }
unfolding state_of_replayed
made old {t} {bad} {seen} {precious} a b c d =
    ap (parts_1 (places_of old.bad.items) (places_of old.seen.items) (reverse old.calls.items)) a
    ∙ ap (parts_2 t (places_of old.seen.items) (reverse old.calls.items)) b ∙ ap (parts_3 t bad (reverse old.calls.items)) c ∙ ap (parts_4 t bad seen) d
  where
    parts_1 : List ℕ → List ℕ → List ℕ → Blocks Block → State Block
    parts_1 x y z w = record { blocks = w; bad = x; seen = y; precious = z }

    parts_2 : Blocks Block → List ℕ → List ℕ → List ℕ → State Block
    parts_2 w y z x = record { blocks = w; bad = x; seen = y; precious = z }

    parts_3 : Blocks Block → List ℕ → List ℕ → List ℕ → State Block
    parts_3 w x z y = record { blocks = w; bad = x; seen = y; precious = z }

    parts_4 : Blocks Block → List ℕ → List ℕ → List ℕ → State Block
    parts_4 w x y z = record { blocks = w; bad = x; seen = y; precious = z }

pub state-bad : (old : Replayed) (p : ℕ) → p < length old.bad.items → has (state_of_replayed old).bad p ≡ is_flagged old.bad.items p
unfolding state_of_replayed
state-bad old p h = has-places old.bad.items p h

pub state-seen : (old : Replayed) (p : ℕ) → p < length old.seen.items → has (state_of_replayed old).seen p ≡ is_flagged old.seen.items p
unfolding state_of_replayed
state-seen old p h = has-places old.seen.items p h

module _ (r : Rules Block Id) (old : Replayed) (right : IsRight r old) where
  pub count : suc (length (state_of_replayed old).blocks) ≡ length old.held.items
  unfolding state_of_replayed
  count = length-blocks old.held.items right.some

  -- genesis isn't marked
  pub genesis-usable : has_no_mark (state_of_replayed old) 0 ≡ true
  genesis-usable =
      let z = right.some in
      let l = right.bad in
      usable_from (state_of_replayed old) 0 (λ x o.
      let b = (on-bounds (state_of_replayed old).blocks 0 x o).0 in
      let zero_is : x ≡ 0 = omega arith in
      ap (λ (q : ℕ). has (state_of_replayed old).bad q) zero_is ∙ state-bad old 0 (omega arith) ∙ right.genesis)

-- what isn't kept isn't marked
pub bad_above : (r : Rules Block Id) (old : Replayed) → IsRight r old → (p : ℕ) → length old.held.items ≤ p → has (state_of_replayed old).bad p ≡ false
unfolding state_of_replayed places_of
bad_above r old right p h =
    let z = right.some in
    let b = right.bad in
    Rattle.tree.specs.laws.Sets.has_filter-above (is_flagged old.bad.items) (length old.bad.items - 1) p (omega arith)

-- ---- a branch

module _ (params : Params) (triples : Triples) (old : Replayed) (right : IsRight (regtest params triples) old) (p : ℕ) (h : p < length old.held.items) where
  pub branch_within : (i : ℕ) → i < length (branch (blocks_of old.held.items) p) → get_or (branch (blocks_of old.held.items) p) i 0 < length old.held.items
  branch_within i l =
      let n = length-blocks old.held.items right.some in
      let b = branch_kept (blocks_of old.held.items) p (omega arith) i l in
      omega arith

  pub branch_alone : AreAlone old.held.items (branch (blocks_of old.held.items) p)
  branch_alone = record {
    kept = branch_within;
    alone = λ i l.
        let n = length-blocks old.held.items right.some in
        let x = get_or (branch (blocks_of old.held.items) p) i 0 in
        let k = branch_within i (omega arith) in
        let z = branch_later (blocks_of old.held.items) p (omega arith) i l in
        ap (λ (b : Block). first_broken (alone_rules b)) (block-held old.held.items right.held x k)
        ∙ alone-at (regtest params triples) (blocks_of old.held.items) x right.kept z (omega arith);
  }

  -- it has a block, and no more than are kept
  pub branch_long : length (branch (blocks_of old.held.items) p) ≡ suc (height (blocks_of old.held.items) p)
  branch_long = let n = length-blocks old.held.items right.some in branch_length (blocks_of old.held.items) p (omega arith)

  pub branch_few : length (branch (blocks_of old.held.items) p) ≤ 1000000
  branch_few =
      let n = length-blocks old.held.items right.some in
      let b = height-place (blocks_of old.held.items) p p (omega arith) (omega arith) in
      let l = branch_long in
      let r = right.room in
      omega arith

  pub branch_blocks : ◌≡◌ {A = List Block} (blocks_in old.held.items (branch (blocks_of old.held.items) p)) (blocks_at names (blocks_of old.held.items) (branch (blocks_of old.held.items) p))
  branch_blocks = blocks-held old.held.items right.held (branch (blocks_of old.held.items) p) branch_within

  -- whether none of it is marked
  pub branch_usable : list_all (λ x. not (is_flagged old.bad.items x)) (branch (blocks_of old.held.items) p) ≡ has_no_mark (state_of_replayed old) p
  unfolding has_no_mark state_of_replayed
  branch_usable =
      all_agree (λ x. not (is_flagged old.bad.items x)) (λ x. not (has (places_of old.bad.items) x)) (branch (blocks_of old.held.items) p)
      (λ x o.
      let n = length-blocks old.held.items right.some in
      let b = branch_bound x o in
      let l = right.bad in
      ap not (sym (has-places old.bad.items x (omega arith))))
    where
      branch_bound : (x : ℕ) → has (branch (blocks_of old.held.items) p) x ≡ true → x ≤ length (blocks_of old.held.items)
      branch_bound x o = Rattle.tree.specs.laws.AddedBlock.branch_within names (record { block = Rattle.tree.specs.Names.genesis; parent = 0 }) (blocks_of old.held.items) p x o

-- ---- what is found of each block

module _ (params : Params) (triples : Triples) (s : State Block) (judged : List Judgement) (are : AreJudgements (regtest params triples) s judged) where
  judged-is : (p : ℕ) (d : Judgement) → p ≤ length s.blocks → get_or judged p d ≡ judgement_at (regtest params triples) s p
  judged-is p d h = are.each p d h

  pub usable-is : (p : ℕ) (d : Judgement) → p ≤ length s.blocks → (get_or judged p d).usable ≡ has_no_mark s p
  unfolding judgement_at
  usable-is p d h = ap (λ (j : Judgement). j.usable) (judged-is p d h)

  pub height-is : (p : ℕ) (d : Judgement) → p ≤ length s.blocks → (get_or judged p d).height ≡ height s.blocks p
  unfolding judgement_at
  height-is p d h = ap (λ (j : Judgement). j.height) (judged-is p d h)

  pub valid-is : (p : ℕ) (d : Judgement) → p ≤ length s.blocks → is_valid (get_or judged p d).trial ≡ branch_connects (regtest params triples) s.blocks p
  unfolding judgement_at
  valid-is p d h = ap (λ (j : Judgement). is_valid j.trial) (judged-is p d h) ∙ trial-valid params triples s.blocks p h

  pub first-is : (p : ℕ) (d : Judgement) → p ≤ length s.blocks → is_first (get_or judged p d).trial ≡ first_to_fail (regtest params triples) s.blocks p
  unfolding judgement_at
  first-is p d h = ap (λ (j : Judgement). is_first j.trial) (judged-is p d h) ∙ trial-first params triples s.blocks p h

  pub above-is : (p q : ℕ) (d e : Judgement) → p ≤ length s.blocks → q ≤ length s.blocks → above (get_or judged p d) p (get_or judged q e) q ≡ beats s p q
  unfolding judgement_at beats
  above-is p q d e h g = ap (λ (j : Judgement). above j p (get_or judged q e) q) (judged-is p d h) ∙ ap (λ (j : Judgement). above (judgement_at (regtest params triples) s p) p j q) (judged-is q e g)

  pub can-is : (p : ℕ) (d : Judgement) → p ≤ length s.blocks → ((get_or judged p d).usable && is_valid (get_or judged p d).trial) ≡ can_be_active (regtest params triples) s p
  unfolding can_be_active
  can-is p d h = ap (λ b. b && is_valid (get_or judged p d).trial) (usable-is p d h) ∙ ap (λ b. has_no_mark s p && b) (valid-is p d h)

  -- the blocks that are near are those on a candidate's branch
  module _ (a : ℕ) (is : a ≡ active (regtest params triples) s) (kept : a ≤ length s.blocks) where
    near-is : (c : ℕ) → c ≤ length s.blocks → is_near judged a c ≡ is_candidate (regtest params triples) s c
    unfolding is_candidate
    near-is c h =
        ap (λ b. b && (eqb c a || above (judgement_in judged c) c (judgement_in judged a) a)) (usable-is c no_judgement h)
        ∙ ap (λ b. has_no_mark s c && (eqb c a || b)) (above-is c a no_judgement no_judgement h kept)
        ∙ ap (λ (q : ℕ). has_no_mark s c && (eqb c q || beats s c q)) is

    pub on_near : (x : ℕ) → any_below (λ c. is_near judged a c && on s.blocks c x) (suc (length s.blocks)) ≡ on_candidate (regtest params triples) s x
    unfolding on_candidate
    on_near x =
        any-agree (λ c. is_near judged a c && on s.blocks c x) (λ c. is_candidate (regtest params triples) s c && on s.blocks c x) (suc (length s.blocks)) (λ c l. ap (λ b. b && on s.blocks c x) (near-is c (omega arith)))
        ∙ any-down (λ c. is_candidate (regtest params triples) s c && on s.blocks c x) (length s.blocks)

  -- genesis never fails
  pub first-never : (d : Judgement) → is_first (get_or judged 0 d).trial ≡ false
  first-never d = first-is 0 d (omega arith) ∙ Rattle.reference.proofs.BranchReplay.first-zero params triples s.blocks

  -- the trial of a block
  pub trial_found : (p : ℕ) (d : Judgement) → p ≤ length s.blocks → (get_or judged p d).trial ≡ Rattle.reference.specs.inside.Replay.trial_on (regtest params triples) (blocks_at names s.blocks (branch s.blocks p))
  unfolding judgement_at
  trial_found p d h = ap (λ (j : Judgement). j.trial) (judged-is p d h)
