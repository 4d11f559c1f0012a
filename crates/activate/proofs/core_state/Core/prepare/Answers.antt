use Rattle.std.proofs.Common.{◌≡◌, ℕ, suc, ◌<◌, ◌≤◌, length, List, Option, Some, None, refl, sym, ap, subst, ◌∙◌, arith}
use Rattle.std.specs.Option.{option_copied}
use Rattle.std.specs.Result.{result_err}
use Rattle.std.proofs.lemmas.Result.{err_from_is_err_and}
use Rattle.block.specs.BlockOfBytes.{block_of_bytes}
use Rattle.connect.specs.laws.Stops.{wanted_weaker}
use Rattle.tree.specs.State.{with_block}
use Rattle.hash.specs.declared.id.Id.{Id}
use Rattle.block.specs.declared.block.Block.{Block}
use Rattle.block.specs.Identity.{id_of}
use Rattle.signatures.specs.Triple.{Triples}
use Rattle.model.specs.Faults.{IsNew}
use Rattle.tree.specs.Branches.{place_of}
use Rattle.tree.specs.Limits.{max_blocks}
use Rattle.tree.specs.Names.{names}
use Rattle.tree.specs.laws.AddedBlock.{place-bound}
use Rattle.model.specs.declared.reply.Reply.TheVariants as reply
use Rattle.model.specs.declared.reply.SubmitReply.TheVariants.{DecodeFailed, Rejected, TreeFull}
use Rattle.model.specs.Context.{first_fault}
use Rattle.model.specs.Submission.{submit_says}
use Rattle.model.specs.Commands.{outcome}
use Rattle.model.specs.Step.{Submit}
use Rattle.model.specs.SubmissionFacts.{IsSubmission}
use Rattle.model.specs.declared.command.Command.TheVariants as command
use Rattle.model.specs.declared.submission.SubmittedBlock.{SubmittedBlock}
use Rattle.model.specs.Regtest.{regtest}
use Rattle.activate.specs.CoreState.{CoreState}
use Rattle.activate.specs.Wants.{AreWantedBy, AreWantedByStep, IsToSettle}
use Rattle.activate.proofs.WantsOfBlocks.{wanted_by}
use Rattle.model.specs.laws.Outcomes.{refused, submitted}
use Rattle.model.specs.laws.Steps.{step-known, step-full, step-faulty}
use Rattle.tree.specs.declared.new_block.NewBlock.{NewBlock}
use Rattle.activate.specs.declared.plan.Prepared.{Prepared}
use Rattle.activate.specs.declared.plan.Edit.TheVariants.{Keep}
use Rattle.model.specs.declared.submission.PreparedCommand.{PreparedCommand}
use Rattle.model.specs.declared.submission.PreparedCommand.TheVariants as asked
use Rattle.model.specs.PreparedCommand.{command_of}
use Rattle.activate.specs.inside.Preparation.{IsNoSubmission, IsPreparationFor}
use Rattle.activate.proofs.NewBlock.{plan_new}
use Rattle.activate.proofs.PutInPlace.{plan-still}
use Rattle.activate.proofs.core_state.Core.prepare.Goals as goal

-- what was looked up inside, of a block's id, is so of the chainstate as it is seen
module _ {inside outside : CoreState} (e : inside ≡ outside) (b : Block) {id : Id} {found : Option ℕ} (id-is : id ≡ id_of b.header) (looked : found ≡ place_of names inside.state.blocks id) where
  found_there : {q : Option ℕ} → found ≡ q → place_of names outside.state.blocks (id_of b.header) ≡ q
  found_there {q} told = subst (λ (x : CoreState). place_of names x.state.blocks (id_of b.header) ≡ q) e (ap (place_of names inside.state.blocks) (sym id-is) ∙ sym looked ∙ told)

  module _ (none : found ≡ None) {n : ℕ} (count : n ≡ suc (length inside.state.blocks)) (room : n < max_blocks) where
    room_there : suc (length outside.state.blocks) < max_blocks
    room_there = subst (λ (x : CoreState). suc (length x.state.blocks) < max_blocks) e (omega arith)

    module _ (triples : Triples) (now p : ℕ) (faultless : None ≡ first_fault (regtest inside.params triples) inside.state now b) (parent : place_of names inside.state.blocks b.header.prev ≡ Some p) where
      -- the block is to be kept
      new_there : IsNew (regtest outside.params triples) outside.state now b p
      new_there = record {
        unknown = found_there none;
        room = room_there;
        faultless = subst (λ (x : CoreState). first_fault (regtest x.params triples) x.state now b ≡ None) e (sym faultless);
        parent = subst (λ (x : CoreState). place_of names x.state.blocks b.header.prev ≡ Some p) e parent;
      }

-- what a submission holds says what its bytes spell
held : (bytes : List ℕ) (found told : Option SubmittedBlock) → IsSubmission bytes found → found ≡ told → IsSubmission bytes told
held bytes found told is e = subst (IsSubmission bytes) e is

pub known-requires : goal.known-requires
known-requires g c =
    let a : CoreState = c.args.self.now in
    let found = found_there c.self.view_is c.in-Some.submitted.now.block (held c.in-Submit.submission _ _ c.block.ensures (ap option_copied c.in-Some.is)).1.id c.find.ensures c.in-Some-find.is in
    place-bound names a.state.blocks (id_of c.in-Some.submitted.now.block.header) c.in-Some-find.place found

pub returns-in-Some-find-clause-prepared : goal.returns-in-Some-find-clause-prepared
returns-in-Some-find-clause-prepared g c triples agrees =
    let a : CoreState = c.args.self.now in
    let r = regtest a.params triples in
    let found = found_there c.self.view_is c.in-Some.submitted.now.block (held c.in-Submit.submission _ _ c.block.ensures (ap option_copied c.in-Some.is)).1.id c.find.ensures c.in-Some-find.is in
    rw c.in-Submit.is (plan-still r a (reply.Submit c.known.result) c.still-in-Some-find.result (outcome r a.state (command.Submit c.in-Submit.submission c.in-Submit.now)) (c.requires.follows triples agrees).active_is c.still-in-Some-find.ensures
    (ap (submit_says a.state) (c.known.ensures r) ∙ sym (step-known r a.state c.in-Submit.now c.in-Some.submitted.now.block c.in-Some-find.place found) ∙ submitted r a.state c.in-Submit.submission c.in-Submit.now c.in-Some.submitted.now.block (held c.in-Submit.submission _ _ c.block.ensures (ap option_copied c.in-Some.is)).0))

pub returns-then-len-ge-MAX_BLOCKS-clause-prepared : goal.returns-then-len-ge-MAX_BLOCKS-clause-prepared
returns-then-len-ge-MAX_BLOCKS-clause-prepared g c triples agrees =
    let a : CoreState = c.args.self.now in
    let r = regtest a.params triples in
    let none = found_there c.self.view_is c.in-Some.submitted.now.block (held c.in-Submit.submission _ _ c.block.ensures (ap option_copied c.in-Some.is)).1.id c.find.ensures c.in_default-find.is in
    let t = c.if-len-ge-MAX_BLOCKS.true in
    let e = c.len.ensures.count in
    let full : max_blocks ≤ suc (length c.self.inside.tree.blocks) = omega arith in
    rw c.in-Submit.is (plan-still r a (reply.Submit TreeFull) c.still-then-len-ge-MAX_BLOCKS.result (outcome r a.state (command.Submit c.in-Submit.submission c.in-Submit.now)) (c.requires.follows triples agrees).active_is c.still-then-len-ge-MAX_BLOCKS.ensures
    (sym (step-full r a.state c.in-Submit.now c.in-Some.submitted.now.block none (subst (λ (x : CoreState). max_blocks ≤ suc (length x.state.blocks)) c.self.view_is full)) ∙ submitted r a.state c.in-Submit.submission c.in-Submit.now c.in-Some.submitted.now.block (held c.in-Submit.submission _ _ c.block.ensures (ap option_copied c.in-Some.is)).0))

pub returns-in-Err-clause-prepared : goal.returns-in-Err-clause-prepared
returns-in-Err-clause-prepared g c triples agrees =
    let a : CoreState = c.args.self.now in
    let r = regtest a.params triples in
    let none = found_there c.self.view_is c.in-Some.submitted.now.block (held c.in-Submit.submission _ _ c.block.ensures (ap option_copied c.in-Some.is)).1.id c.find.ensures c.in_default-find.is in
    let room = room_there c.self.view_is c.in-Some.submitted.now.block (held c.in-Submit.submission _ _ c.block.ensures (ap option_copied c.in-Some.is)).1.id c.find.ensures c.in_default-find.is c.len.ensures.count (let t = c.if-len-ge-MAX_BLOCKS.false in omega arith) in
    let inside : first_fault (regtest c.self.inside.params triples) c.self.inside.tree c.in-Submit.now c.in-Some.submitted.now.block ≡ Some c.in-Err.reason =
    sym (subst (λ o. result_err o ≡ first_fault (regtest c.self.inside.params triples) c.self.inside.tree c.in-Submit.now c.in-Some.submitted.now.block) c.in-Err.is (c.fault_or_parent.ensures.fault triples)) in
    let fault : first_fault r a.state c.in-Submit.now c.in-Some.submitted.now.block ≡ Some c.in-Err.reason = subst (λ (x : CoreState). first_fault (regtest x.params triples) x.state c.in-Submit.now c.in-Some.submitted.now.block ≡ Some c.in-Err.reason) c.self.view_is inside in
    rw c.in-Submit.is (plan-still r a (reply.Submit (Rejected c.in-Err.reason)) c.still-in-Err.result (outcome r a.state (command.Submit c.in-Submit.submission c.in-Submit.now)) (c.requires.follows triples agrees).active_is c.still-in-Err.ensures
    (sym (step-faulty r a.state c.in-Submit.now c.in-Some.submitted.now.block c.in-Err.reason none room fault) ∙ submitted r a.state c.in-Submit.submission c.in-Submit.now c.in-Some.submitted.now.block (held c.in-Submit.submission _ _ c.block.ensures (ap option_copied c.in-Some.is)).0))

pub settle_new-requires-clause-new : goal.settle_new-requires-clause-new
settle_new-requires-clause-new g c = (
  c.in-Submit.now,
  λ triples agrees. new_there c.self.view_is c.in-Some.submitted.now.block (held c.in-Submit.submission _ _ c.block.ensures (ap option_copied c.in-Some.is)).1.id c.find.ensures c.in_default-find.is c.len.ensures.count (let t = c.if-len-ge-MAX_BLOCKS.false in omega arith)
      triples c.in-Submit.now c.in-Ok.parent (c.in-Ok.ensures.fault triples) c.in-Ok.ensures.parent,
)

pub returns-in_ok-copy-in-Ok-clause-prepared : goal.returns-in_ok-copy-in-Ok-clause-prepared
returns-in_ok-copy-in-Ok-clause-prepared g c triples agrees =
    let a : CoreState = c.args.self.now in
    let b = c.in-Some.submitted.now.block in
    let s = c.in_ok-settled-in-Ok.settled in
    let is = new_there c.self.view_is b (held c.in-Submit.submission _ _ c.block.ensures (ap option_copied c.in-Some.is)).1.id c.find.ensures c.in_default-find.is c.len.ensures.count (let t = c.if-len-ge-MAX_BLOCKS.false in omega arith)
    triples c.in-Submit.now c.in-Ok.parent (c.in-Ok.ensures.fault triples) c.in-Ok.ensures.parent in
    let block_is = c.with_ids-block.ensures in
    let new : NewBlock = record { block = c.with_ids-block.result; id = c.in-Some.submitted.now.id; parent = c.in-Ok.parent } in
    let prepared : Prepared = record { reply = reply.Submit s.said; edit = Keep new; rest = s.rest; changes = s.changes } in
    rw c.in-Submit.is (subst (λ o. IsPreparationFor (regtest a.params triples) a o prepared) (submitted (regtest a.params triples) a.state c.in-Submit.submission c.in-Submit.now b (held c.in-Submit.submission _ _ c.block.ensures (ap option_copied c.in-Some.is)).0)
    (plan_new triples a (c.requires.follows triples agrees) c.in-Submit.now b c.in-Ok.parent is s (c.in_ok-settled-in-Ok.ensures.settled triples agrees) new
    (record {
      room = is.room;
      id = (held c.in-Submit.submission _ _ c.block.ensures (ap option_copied c.in-Some.is)).1.id ∙ ap (λ (x : Block). id_of x.header) (sym block_is);
      parent = place-bound names a.state.blocks b.header.prev c.in-Ok.parent is.parent;
    }) block_is refl))

pub returns-in_default-block-clause-prepared : goal.returns-in_default-block-clause-prepared
returns-in_default-block-clause-prepared g c triples agrees =
    let a : CoreState = c.args.self.now in
    let r = regtest a.params triples in
    let e : block_of_bytes c.in-Submit.submission ≡ None = held c.in-Submit.submission _ None c.block.ensures (ap option_copied c.in_default-block.is) in
    rw c.in-Submit.is (plan-still r a (reply.Submit DecodeFailed) c.still.result (outcome r a.state (command.Submit c.in-Submit.submission c.in-Submit.now)) (c.requires.follows triples agrees).active_is c.still.ensures
    (refused r a.state c.in-Submit.submission c.in-Submit.now e))

pub returns-in_err-settled-in-Ok-clause-wants : goal.returns-in_err-settled-in-Ok-clause-wants
returns-in_err-settled-in-Ok-clause-wants g c =
    let a : CoreState = c.args.self.now in
    let known = g.S.RunsScripts.known c.args.env.now in
    let bytes = c.in-Submit.submission in
    let now = c.in-Submit.now in
    let b = c.in-Some.submitted.now.block in
    let h = (held c.in-Submit.submission _ _ c.block.ensures (ap option_copied c.in-Some.is)) in
    let passed = err_from_is_err_and c.from_residual.result c.from_residual.ensures.1 in
    let changed : IsToSettle a known (Submit now b) (with_block a.state b c.in-Ok.parent) = (
      c.in-Ok.parent,
      (λ triples agrees. new_there c.self.view_is b h.1.id c.find.ensures c.in_default-find.is c.len.ensures.count (let t = c.if-len-ge-MAX_BLOCKS.false in omega arith)
          triples now c.in-Ok.parent (c.in-Ok.ensures.fault triples) c.in-Ok.ensures.parent),
      refl,
    ) in
    rw (passed.1, passed.2, c.in-Submit.is) (wanted_weaker (AreWantedBy a (Submit now b) known) (AreWantedByStep a (command.Submit bytes now) known) (λ list w. (b, h.0, w)) _
    (wanted_by a (Submit now b) known _ changed _ c.in_err-settled-in-Ok.ensures.wants))

-- what is no submission
none_submitted : (c : PreparedCommand) → ((bytes : List ℕ) (now : ℕ) → c ≡ asked.Submit bytes now → ⊥) → IsNoSubmission (command_of c)
none_submitted (asked.Submit bytes now) none = none bytes now refl
none_submitted (asked.Invalidate id) none = tt
none_submitted (asked.Reconsider id) none = tt
none_submitted (asked.Precious id) none = tt
none_submitted (asked.Learn triple valid) none = tt

pub prepare_mark-requires-clause-mark : goal.prepare_mark-requires-clause-mark
prepare_mark-requires-clause-mark g c = none_submitted c.args.command.now c.in_default.not-Submit
