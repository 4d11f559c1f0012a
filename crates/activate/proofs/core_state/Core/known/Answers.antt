use Rattle.std.proofs.Common.{Bool, cond, not, sym, ap, ◌∙◌}
use Rattle.tree.specs.Branches.{has}
use Rattle.tree.specs.State.{State, has_no_mark}
use Rattle.block.specs.declared.block.Block.{Block}
use Rattle.model.specs.declared.reply.SubmitReply.TheVariants.{Duplicate, DuplicateInvalid, DuplicateInconclusive}
use Rattle.model.specs.Submission.{answer_known}
use Rattle.activate.proofs.core_state.Core.known.Goals as goal

pub returns-then-not-usable : goal.returns-then-not-usable
unfolding answer_known
returns-then-not-usable c r =
    ap (λ (u : Bool). cond (not u) DuplicateInvalid (cond (has c.self.inside.tree.seen c.args.place) Duplicate DuplicateInconclusive)) (sym (sym c.usable.ensures ∙ c.if-not-usable.true))
    ∙ ap (λ (s : State Block). cond (not (has_no_mark s c.args.place)) DuplicateInvalid (cond (has s.seen c.args.place) Duplicate DuplicateInconclusive)) (ap (λ t. t.state) c.self.view_is)

pub returns-then-seen : goal.returns-then-seen
unfolding answer_known
returns-then-seen c r =
    ap (λ (v : Bool). cond v Duplicate DuplicateInconclusive) (sym (sym c.seen.ensures ∙ c.if-seen.true))
    ∙ ap (λ (u : Bool). cond (not u) DuplicateInvalid (cond (has c.self.inside.tree.seen c.args.place) Duplicate DuplicateInconclusive)) (sym (sym c.usable.ensures ∙ c.if-not-usable.false))
    ∙ ap (λ (s : State Block). cond (not (has_no_mark s c.args.place)) DuplicateInvalid (cond (has s.seen c.args.place) Duplicate DuplicateInconclusive)) (ap (λ t. t.state) c.self.view_is)

pub returns-else-seen : goal.returns-else-seen
unfolding answer_known
returns-else-seen c r =
    ap (λ (v : Bool). cond v Duplicate DuplicateInconclusive) (sym (sym c.seen.ensures ∙ c.if-seen.false))
    ∙ ap (λ (u : Bool). cond (not u) DuplicateInvalid (cond (has c.self.inside.tree.seen c.args.place) Duplicate DuplicateInconclusive)) (sym (sym c.usable.ensures ∙ c.if-not-usable.false))
    ∙ ap (λ (s : State Block). cond (not (has_no_mark s c.args.place)) DuplicateInvalid (cond (has s.seen c.args.place) Duplicate DuplicateInconclusive)) (ap (λ t. t.state) c.self.view_is)
