use Rattle.std.proofs.Common.{◌≡◌, ℕ, suc, List, length, Option, Some, Result, Ok, Err, sym, ap, ◌∙◌, subst, arith}
use Rattle.std.specs.Prelude.{IfOk}
use Rattle.std.specs.Result.{result_err}
use Rattle.block.specs.declared.block.Block.{Block}
use Rattle.block.specs.Identity.{id_of}
use Rattle.tree.specs.Branches.{place_of}
use Rattle.tree.specs.State.{State}
use Rattle.tree.specs.Names.{names}
use Rattle.hash.specs.declared.id.Id.{Id}
use Rattle.model.specs.Rules.{Rules}
use Rattle.model.specs.declared.reply.SubmitReply.{SubmitReply}
use Rattle.model.specs.Context.{first_fault}
use Rattle.model.specs.Submission.{Outcome, submit_says, answer_known}
use Rattle.model.specs.Step.{Submit, step}
use Rattle.model.specs.Faults.{IsNew}
use Rattle.reference.specs.declared.kept_block.KeptBlock.{KeptBlock}
use Rattle.reference.specs.declared.state.Replayed.{Replayed}
use Rattle.reference.specs.inside.Replay.{IsRight, blocks_of, chain_rules, state_of_replayed}
use Rattle.model.specs.laws.Steps.{step-known, step-full, step-faulty, step-added, faultless-alone}
use Rattle.reference.proofs.States.{count}
use Rattle.reference.proofs.Steps.{find_place, place_kept}
use Rattle.reference.proofs.step.submit.Goals as goal

-- where the search for a block's id found it among the kept ones
found_place : (old : Replayed) {held : List KeptBlock} {i j : Id} {o q : Option ℕ} → held ≡ old.held.items → i ≡ j → o ≡ place_of names (blocks_of held) i → o ≡ q → place_of names (state_of_replayed old).blocks j ≡ q
found_place old {held} {i} {j} {o} {q} held-are is found told = ap (place_of names (state_of_replayed old).blocks) (sym is) ∙ find_place old held i o q held-are found told

-- how many blocks are kept
counted : (r : Rules Block Id) (old : Replayed) → IsRight r old → {n len : ℕ} → n ≡ len → len ≡ length old.held.items → n ≡ suc (length (state_of_replayed old).blocks)
counted r old right e f = e ∙ f ∙ sym (count r old right)

pub answer_known-requires-clause-kept : goal.answer_known-requires-clause-kept
answer_known-requires-clause-kept c = place_kept (chain_rules c.args.chain.now) c.args.old.now c.requires (id_of c.args.block.header) c.in-Some.place (found_place c.args.old.now c.deref.ensures.value c.id-id.ensures c.find.ensures c.in-Some.is)

answered : {E : Type 0} (s : State Block) (o : Result SubmitReply E) (x : SubmitReply) (t : Outcome Block) → submit_says s x ≡ t → IfOk o (λ a. a ≡ x) → IfOk o (λ a. submit_says s a ≡ t)
answered s (Ok a) x t e f = ap (submit_says s) f ∙ e
answered s (Err a) x t e f = tt

pub returns-in-Some-clause-state : goal.returns-in-Some-clause-state
returns-in-Some-clause-state c =
    let r = chain_rules c.args.chain.now in
    let s = state_of_replayed c.args.old.now in
    answered s c.answer_known.result (answer_known r s c.in-Some.place) (step r s (Submit c.args.now c.args.block)) (sym (step-known r s c.args.now c.args.block c.in-Some.place (found_place c.args.old.now c.deref.ensures.value c.id-id.ensures c.find.ensures c.in-Some.is))) c.answer_known.ensures

pub returns-then-len-ge-MAX_BLOCKS-clause-state : goal.returns-then-len-ge-MAX_BLOCKS-clause-state
returns-then-len-ge-MAX_BLOCKS-clause-state c =
    let r = chain_rules c.args.chain.now in
    let n = counted r c.args.old.now c.requires c.len.ensures c.args.old.now.held.ok.0 in
    let t = c.if-len-ge-MAX_BLOCKS.true in
    sym (step-full r (state_of_replayed c.args.old.now) c.args.now c.args.block (found_place c.args.old.now c.deref.ensures.value c.id-id.ensures c.find.ensures c.in_default.is) (omega arith))

pub keep-requires-clause-new : goal.keep-requires-clause-new
keep-requires-clause-new c = found_place c.args.old.now c.deref.ensures.value c.id-id.ensures c.find.ensures c.in_default.is

pub keep-requires-clause-alone : goal.keep-requires-clause-alone
keep-requires-clause-alone c =
    let r = chain_rules c.args.chain.now in
    faultless-alone r (state_of_replayed c.args.old.now) c.args.now c.args.block
    (sym (subst (λ a. result_err a ≡ first_fault r (state_of_replayed c.args.old.now) c.args.now c.args.block) c.in-Ok.is c.in_ok-reason.ensures.fault))

pub keep-requires-clause-parent : goal.keep-requires-clause-parent
keep-requires-clause-parent c =
    subst (λ a. IfOk a (λ parent. place_of names (state_of_replayed c.args.old.now).blocks c.args.block.header.prev ≡ Some parent)) c.in-Ok.is c.in_ok-reason.ensures.parent

pub returns-in-Err-clause-state : goal.returns-in-Err-clause-state
returns-in-Err-clause-state c =
    let r = chain_rules c.args.chain.now in
    let s = state_of_replayed c.args.old.now in
    let n = counted r c.args.old.now c.requires c.len.ensures c.args.old.now.held.ok.0 in
    let t = c.if-len-ge-MAX_BLOCKS.false in
    sym (step-faulty r s c.args.now c.args.block c.in-Err.reason (found_place c.args.old.now c.deref.ensures.value c.id-id.ensures c.find.ensures c.in_default.is) (omega arith)
    (sym (subst (λ a. result_err a ≡ first_fault r s c.args.now c.args.block) c.in-Err.is c.in_ok-reason.ensures.fault)))

pub returns-in-Ok-clause-state : goal.returns-in-Ok-clause-state
returns-in-Ok-clause-state c =
    let r = chain_rules c.args.chain.now in
    let s = state_of_replayed c.args.old.now in
    let n = counted r c.args.old.now c.requires c.len.ensures c.args.old.now.held.ok.0 in
    let t = c.if-len-ge-MAX_BLOCKS.false in
    let new : IsNew r s c.args.now c.args.block c.in-Ok.parent = record {
      unknown = found_place c.args.old.now c.deref.ensures.value c.id-id.ensures c.find.ensures c.in_default.is;
      room = omega arith;
      faultless = sym (subst (λ a. result_err a ≡ first_fault r s c.args.now c.args.block) c.in-Ok.is c.in_ok-reason.ensures.fault);
      parent = subst (λ a. IfOk a (λ parent. place_of names s.blocks c.args.block.header.prev ≡ Some parent)) c.in-Ok.is c.in_ok-reason.ensures.parent;
    } in
    subst (λ (t : Outcome Block). IfOk c.keep.result (λ answer. submit_says (state_of_replayed c.keep.new.old) answer ≡ t)) (sym (step-added r s c.args.now c.args.block c.in-Ok.parent new)) c.keep.ensures.state
