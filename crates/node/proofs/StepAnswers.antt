-- The answer of a writing call, by its command.
use Rattle.std.proofs.Common.{◌≡◌, ℕ, Bool, true, List, [], ◌∷◌, ◌++◌, Some, subst}
use Rattle.signatures.specs.Known.{Known}
use Rattle.signatures.specs.Triple.{Triple}
use Rattle.model.specs.declared.command.Command.{Command}
use Rattle.model.specs.declared.command.Command.TheVariants as command
use Rattle.model.specs.declared.entry.Entry.{Entry}
use Rattle.model.specs.declared.reply.MarkReply.TheVariants.{Done}
use Rattle.model.specs.declared.reply.Reply.{Reply}
use Rattle.model.specs.declared.reply.Reply.TheVariants as reply
use Rattle.model.specs.declared.reply.SubmitReply.TheVariants.{Accepted, Inconclusive, Duplicate, DuplicateInvalid, DuplicateInconclusive, Rejected, DecodeFailed, TreeFull}
use Rattle.model.specs.Commands.{command_step}
use Rattle.model.specs.History.{entry_of}
use Rattle.model.specs.Learnt.{IsNews, found_in}
use Rattle.model.specs.Machine.{Machine}
use Rattle.model.specs.laws.History.{stands_within}
use Rattle.model.specs.laws.Learnt.{one_agrees}
use Rattle.view.specs.Origin.{Origin, machine}
use Rattle.view.specs.ViewState.{IsLegal}
use Rattle.node.specs.Pass.{Pass, IsLater, IsWrite}
use Rattle.node.specs.inside.Kept.{IsReplyTo, is_step}
use Rattle.node.specs.inside.Writes.{IsMark, IsWriteAnswer}

-- the answer of a step
pub answer_step : (p q : Pass) (c : Command) (at : ℕ) (r : Reply) → is_step r ≡ true → IsReplyTo c r → IsWrite p q c at r → IsWriteAnswer p q c at r
answer_step p q (command.Submit bytes now) at (reply.Submit DecodeFailed) s k w = absurd (cc s)
answer_step p q (command.Submit bytes now) at (reply.Submit Accepted) s k w = w
answer_step p q (command.Submit bytes now) at (reply.Submit Inconclusive) s k w = w
answer_step p q (command.Submit bytes now) at (reply.Submit Duplicate) s k w = w
answer_step p q (command.Submit bytes now) at (reply.Submit DuplicateInvalid) s k w = w
answer_step p q (command.Submit bytes now) at (reply.Submit DuplicateInconclusive) s k w = w
answer_step p q (command.Submit bytes now) at (reply.Submit (Rejected reason)) s k w = w
answer_step p q (command.Submit bytes now) at (reply.Submit TreeFull) s k w = w
answer_step p q (command.Submit bytes now) at (reply.Mark value) s k w = absurd k
answer_step p q (command.Invalidate id) at (reply.Submit value) s k w = absurd k
answer_step p q (command.Invalidate id) at (reply.Mark value) s k w = w
answer_step p q (command.Reconsider id) at (reply.Submit value) s k w = absurd k
answer_step p q (command.Reconsider id) at (reply.Mark value) s k w = w
answer_step p q (command.Precious id) at (reply.Submit value) s k w = absurd k
answer_step p q (command.Precious id) at (reply.Mark value) s k w = w
answer_step p q (command.Learn triple valid) at (reply.Submit value) s k w = absurd k
answer_step p q (command.Learn triple valid) at (reply.Mark value) s k w = w

-- a verdict that stands in a legal history was answered as done
learnt_reply : (o : Origin) (before : List Entry) (n : ℕ) (t : Triple) (valid : Bool) (r : Reply) → IsLegal o (before ++ entry_of n (command.Learn t valid) (Some r) ∷ []) → r ≡ reply.Mark Done
unfolding command_step
learnt_reply o before n t valid r legal =
    let e : Entry = entry_of n (command.Learn t valid) (Some r) in
    let some = one_agrees o.table (found_in (before ++ e ∷ [])) in
    let m : Machine = machine o some.0 in
    (stands_within m o.seats m.opening before [] e (legal.legal some.0 some.1)).reply_is

-- the answer of a verdict that is a step
pub answer_learnt : (p q : Pass) (t : Triple) (valid : Bool) (at : ℕ) (r : Reply) → IsLater p q → IsWriteAnswer p q (command.Learn t valid) at r → IsWrite p q (command.Learn t valid) at (reply.Mark Done)
answer_learnt p q t valid at (reply.Submit value) later w = absurd w
answer_learnt p q t valid at (reply.Mark value) later w =
    subst (λ (r : Reply). IsWrite p q (command.Learn t valid) at r)
    (learnt_reply q.origin w.last.0 p.number t valid (reply.Mark value) (subst (λ (l : List Entry). IsLegal q.origin l) w.last.1 later.legal)) w

-- a mark tells no verdict
pub mark_news : (known : Known) (c : Command) → IsMark c → IsNews known c
mark_news known (command.Submit bytes now) mark = tt
mark_news known (command.Invalidate id) mark = tt
mark_news known (command.Reconsider id) mark = tt
mark_news known (command.Precious id) mark = tt
mark_news known (command.Learn t valid) mark = absurd mark
