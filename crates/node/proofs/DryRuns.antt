-- What a dry run answers.
use Rattle.std.proofs.Common.{◌≡◌, List, Result, Ok, Err, IfOk, IfErr, inl, inr, ap, sym, ◌∙◌, subst}
use Rattle.block.specs.declared.block.Block.{Block}
use Rattle.rules.specs.declared.params.Params.{Params}
use Rattle.tree.specs.State.{State}
use Rattle.model.specs.Commands.{outcome}
use Rattle.model.specs.declared.command.Command.{Command}
use Rattle.model.specs.declared.command.Command.TheVariants as command
use Rattle.model.specs.declared.reply.MarkReply.{MarkReply}
use Rattle.model.specs.declared.reply.Reply.{Reply}
use Rattle.model.specs.declared.reply.Reply.TheVariants as reply
use Rattle.model.specs.declared.entry.Entry.{Entry}
use Rattle.model.specs.Learnt.{found_in}
use Rattle.model.specs.Submission.{Outcome}
use Rattle.model.specs.laws.Learnt.{one_agrees}
use Rattle.model.specs.Regtest.{regtest}
use Rattle.activate.specs.CoreState.{CoreState}
use Rattle.view.specs.Origin.{Origin}
use Rattle.view.specs.ViewState.{state_after}
use Rattle.node.specs.declared.published_history.knowledge.Knowledge.{Knowledge}
use Rattle.node.specs.inside.Kept.{IsReplyTo}
use Rattle.node.specs.inside.Knowledge.{IsKnowledge, known_of}
use Rattle.node.specs.inside.PublishedState.{IsCoreOf, IsCoreReply, IsReplyAfter}
use Rattle.node.specs.inside.Writes.{IsSubmission}
use Rattle.node.proofs.Comes.{comes}
use Rattle.node.proofs.Knowledge.{agrees_here}

-- of what is there both ways
pub for_ok : {T E : Type 0} (P Q : T → Type 0) (r : Result T E) → ((x : T) → P x → Q x) → IfOk r P → IfOk r Q
for_ok P Q (Ok x) all h = all x h
for_ok P Q (Err e) all h = tt

pub for_err : {T E : Type 0} (P Q : E → Type 0) (r : Result T E) → ((x : E) → P x → Q x) → IfErr r P → IfErr r Q
for_err P Q (Ok x) all h = tt
for_err P Q (Err e) all h = all e h

-- what the core replies is the reply after its history
pub replied_after : (o : Origin) (core : CoreState) (k : Knowledge) (es : List Entry) (c : Command) (r : Reply) → IsCoreOf o core es → IsKnowledge o k es → IsCoreReply (known_of k) core c r → IsReplyAfter o es c r
replied_after o core k es c r kept h said = λ valid agrees.
    said valid (agrees_here o k es valid h agrees)
    ∙ ap (λ (p : Params). (outcome (regtest p valid) core.state c).1) kept.params_are
    ∙ ap (λ (s : State Block). (outcome (regtest o.params valid) s c).1) (kept.theirs valid agrees).state_is

-- a submission has no reply to marks
pub never_marked : (o : Origin) (es : List Entry) (c : Command) (value : MarkReply) → IsSubmission c → ¬ IsReplyAfter o es c (reply.Mark value)
never_marked o es (command.Submit bytes now) value _ said =
    let some = one_agrees o.table (found_in es) in
    let s : State Block = state_after o some.0 es in
    let c : Command = command.Submit bytes now in
    subst (λ (x : Reply). IsReplyTo c x) (sym (said some.0 some.1)) (elim (comes (regtest o.params some.0) s c) [
      | inl h ↦ h.2
      | inr h ↦ subst (λ (x : Outcome Block). IsReplyTo c x.1) (sym h.0) tt
    ])
never_marked o es (command.Invalidate id) value h said = absurd h
never_marked o es (command.Reconsider id) value h said = absurd h
never_marked o es (command.Precious id) value h said = absurd h
never_marked o es (command.Learn t valid) value h said = absurd h
