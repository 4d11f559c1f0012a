use Rattle.std.proofs.Common.{◌≡◌, Bool, true, false, cond, not, sym, ap, ◌∙◌, arith}
use Rattle.std.proofs.lemmas.List.{get_or_read}
use Rattle.tree.specs.Branches.{has}
use Rattle.model.specs.declared.reply.SubmitReply.TheVariants.{Duplicate, DuplicateInvalid, DuplicateInconclusive}
use Rattle.model.specs.Submission.{answer_known}
use Rattle.reference.specs.inside.Replay.{state_of_replayed}
use Rattle.reference.proofs.States.{state-seen}
use Rattle.reference.proofs.step.answer_known.Goals as goal

pub returns-then-not-branch : goal.returns-then-not-branch
unfolding answer_known
returns-then-not-branch c =
    ap (λ (u : Bool). cond (not u) DuplicateInvalid (cond (has (state_of_replayed c.args.old.now).seen c.args.place) Duplicate DuplicateInconclusive)) (sym (sym c.in_ok-is_usable.ensures ∙ c.if-not-branch.true))

pub returns-then-index : goal.returns-then-index
unfolding answer_known
returns-then-index c =
    let l = c.requires.right.seen in
    let k = c.requires.kept in
    let seen : has (state_of_replayed c.args.old.now).seen c.args.place ≡ true =
    state-seen c.args.old.now c.args.place (omega arith) ∙ sym (get_or_read c.args.old.now.seen.items c.args.place c.index.result.now (omega arith) c.index.ensures false) ∙ c.if-index.true in
    ap (λ (v : Bool). cond v Duplicate DuplicateInconclusive) (sym seen)
    ∙ ap (λ (u : Bool). cond (not u) DuplicateInvalid (cond (has (state_of_replayed c.args.old.now).seen c.args.place) Duplicate DuplicateInconclusive)) (sym (sym c.in_ok-is_usable.ensures ∙ c.if-not-branch.false))

pub returns : goal.returns
unfolding answer_known
returns c =
    let l = c.requires.right.seen in
    let k = c.requires.kept in
    let seen : has (state_of_replayed c.args.old.now).seen c.args.place ≡ false =
    state-seen c.args.old.now c.args.place (omega arith) ∙ sym (get_or_read c.args.old.now.seen.items c.args.place c.index.result.now (omega arith) c.index.ensures false) ∙ c.if-index.false in
    ap (λ (v : Bool). cond v Duplicate DuplicateInconclusive) (sym seen)
    ∙ ap (λ (u : Bool). cond (not u) DuplicateInvalid (cond (has (state_of_replayed c.args.old.now).seen c.args.place) Duplicate DuplicateInconclusive)) (sym (sym c.in_ok-is_usable.ensures ∙ c.if-not-branch.false))
