-- What a command comes to, by what was found.
use Rattle.std.proofs.Common.{◌≡◌, ℕ, ◌<◌, Bool, true, false, cond, ◌||◌, List, length, Option, Some, sym, refl, ap, ◌∙◌, arith}
use Rattle.std.proofs.lemmas.Bool.{eq-eqb, ne_eqb, and_parts}
use Rattle.hash.specs.declared.id.Id.{Id}
use Rattle.block.specs.declared.block.Block.{Block}
use Rattle.signatures.specs.Triple.{Triples}
use Rattle.rules.specs.declared.params.Params.{Params}
use Rattle.tree.specs.Branches.{Blocks, has, branch, blocks_at, place_of}
use Rattle.tree.specs.State.{State, has_no_mark}
use Rattle.tree.specs.Names.{names}
use Rattle.tree.specs.laws.AddedBlock.{place-bound}
use Rattle.tree.specs.laws.Marks.{bad-flagged}
use Rattle.reference.specs.declared.kept_block.KeptBlock.{KeptBlock}
use Rattle.reference.specs.declared.state.Replayed.{Replayed}
use Rattle.reference.specs.declared.branch_replay.Trial.{Trial}
use Rattle.reference.specs.declared.branch_replay.Trial.TheVariants.{Valid, Fails, Below}
use Rattle.model.specs.declared.reply.SubmitReply.TheVariants.{Accepted, Inconclusive}
use Rattle.model.specs.Rules.{Rules}
use Rattle.model.specs.Valid.{fault, first_to_fail}
use Rattle.model.specs.Settle.{active, on_candidate, becomes_bad, becomes_seen, settle}
use Rattle.model.specs.Submission.{submit_says, reply_by_reason, answer_added, outcome_of_added}
use Rattle.model.specs.Regtest.{regtest}
use Rattle.reference.specs.inside.Replay.{IsRight, blocks_of, state_of_replayed, trial_on, is_first, reply_by_trial}
use Rattle.model.specs.laws.SettledState.{active-settle, settle-blocks}
use Rattle.reference.proofs.KeptBlocks.{length-blocks}
use Rattle.reference.proofs.BranchReplay.{trial-first, trial-reason}

-- ---- places

pub find_place : (old : Replayed) (k : List KeptBlock) (i : Id) (o q : Option ℕ) → ◌≡◌ {A = List KeptBlock} k old.held.items → o ≡ place_of names (blocks_of k) i → o ≡ q → place_of names (state_of_replayed old).blocks i ≡ q
unfolding state_of_replayed
find_place old k i o q e f g = ap (λ (l : List KeptBlock). place_of names (blocks_of l) i) (sym e) ∙ sym f ∙ g

pub place_kept : (r : Rules Block Id) (old : Replayed) → IsRight r old → (i : Id) (p : ℕ) → place_of names (state_of_replayed old).blocks i ≡ Some p → p < length old.held.items
unfolding state_of_replayed
place_kept r old right i p e =
    let n = length-blocks old.held.items right.some in
    let b = place-bound names (blocks_of old.held.items) i p e in
    omega arith

-- ---- a block that is added

rejected-not : (trial : Trial) → reply_by_trial false trial ≡ Inconclusive
rejected-not Valid = refl
rejected-not (Fails reason) = refl
rejected-not Below = refl

module _ (params : Params) (triples : Triples) (t u : State Block) (genesis : has_no_mark t 0 ≡ true) (settled : u ≡ settle (regtest params triples) t) (n : ℕ) (last : n ≡ length t.blocks) where
  long : length u.blocks ≡ n
  long = ap (λ (w : State Block). length w.blocks) settled ∙ ap (λ (k : Blocks Block). length k) (settle-blocks (regtest params triples) t) ∙ sym last

  same_active : active (regtest params triples) u ≡ active (regtest params triples) t
  same_active = ap (active (regtest params triples)) settled ∙ active-settle (regtest params triples) t genesis

  pub added_active : n ≡ active (regtest params triples) t → submit_says u Accepted ≡ outcome_of_added (regtest params triples) u
  unfolding answer_added
  added_active e =
      ap (submit_says u) (sym (ap (λ (b : Bool). cond b Accepted (cond (has u.bad (length u.blocks)) (reply_by_reason (fault (regtest params triples) u.blocks (length u.blocks))) Inconclusive))
      (eq-eqb (length u.blocks) (active (regtest params triples) u) (long ∙ e ∙ sym same_active))))

  module _ (other : n ≡ active (regtest params triples) t → ⊥) (fresh : has t.bad n ≡ false) (trial : Trial) (tried : trial ≡ trial_on (regtest params triples) (blocks_at names t.blocks (branch t.blocks n))) where
    bad_now : has u.bad n ≡ becomes_bad (regtest params triples) t n
    unfolding settle
    bad_now =
        ap (λ (w : State Block). has w.bad n) settled ∙ bad-flagged t (becomes_bad (regtest params triples) t) (becomes_seen (regtest params triples) t) n (omega arith)
        ∙ ap (λ b. b || becomes_bad (regtest params triples) t n) fresh

    is_first_here : has u.bad n ≡ true → is_first trial ≡ true
    unfolding becomes_bad
    is_first_here e =
        ap is_first tried ∙ trial-first params triples t.blocks n (omega arith)
        ∙ (and_parts (first_to_fail (regtest params triples) t.blocks n) (on_candidate (regtest params triples) t n) (sym bad_now ∙ e)).0

    blocks_same : ◌≡◌ {A = Blocks Block} u.blocks t.blocks
    blocks_same = ap (λ (w : State Block). w.blocks) settled ∙ settle-blocks (regtest params triples) t

    says : (k : Trial) → k ≡ trial → is_first k ≡ true → reply_by_trial true k ≡ reply_by_reason (fault (regtest params triples) u.blocks n)
    says Valid e f = absurd (cc)
    says (Fails reason) e f =
        sym (ap reply_by_reason (ap (λ (w : Blocks Block). fault (regtest params triples) w n) blocks_same ∙ trial-reason params triples t.blocks n reason (omega arith) (sym tried ∙ sym e)))
    says Below e f = absurd (cc)

    answers : (bad : Bool) → has u.bad n ≡ bad → reply_by_trial bad trial ≡ cond bad (reply_by_reason (fault (regtest params triples) u.blocks n)) Inconclusive
    answers true e = says trial refl (is_first_here e)
    answers false e = rejected-not trial

    pub added_other : (is_bad : Bool) → is_bad ≡ has u.bad n → submit_says u (reply_by_trial is_bad trial) ≡ outcome_of_added (regtest params triples) u
    unfolding answer_added
    added_other is_bad e =
        ap (submit_says u) (ap (λ (b : Bool). reply_by_trial b trial) e ∙ answers (has u.bad n) refl
        ∙ ap (λ (k : ℕ). cond (has u.bad k) (reply_by_reason (fault (regtest params triples) u.blocks k)) Inconclusive) (sym long)
        ∙ sym (ap (λ (b : Bool). cond b Accepted (cond (has u.bad (length u.blocks)) (reply_by_reason (fault (regtest params triples) u.blocks (length u.blocks))) Inconclusive))
        (ne_eqb (length u.blocks) (active (regtest params triples) u) (λ f. other (sym long ∙ f ∙ same_active)))))
