use Rattle.std.proofs.Common.{◌≡◌, List, ap, subst}
use Rattle.model.specs.PreparedCommand.{command_of}
use Rattle.model.specs.declared.command.Command.{Command}
use Rattle.model.specs.declared.entry.Entry.{Entry}
use Rattle.view.specs.Origin.{Origin}
use Rattle.node.specs.inside.Knowledge.{known_of}
use Rattle.node.specs.inside.PublishedState.{PublishedState, IsCoreReply, IsReplyAfter}
use Rattle.node.specs.inside.Refusal.{IsWantAfter, IsWantOf}
use Rattle.node.proofs.DryRuns.{for_err, for_ok, replied_after}
use Rattle.node.proofs.Knowledge.{wanted_after}
use Rattle.node.proofs.published_history.PublishedHistory.judge.Goals as goal

pub returns-clause-reply : goal.returns-clause-reply
returns-clause-reply g c =
    let i = c.self.invariant in
    let s = c.self.inside in
    let o : Origin = g.J.Naming.origin in
    let k : Command = command_of c.args.command.now in
    let journal : s.journal.items ≡ c.args.self.now.journal = ap (λ (h : PublishedState). h.journal) c.self.view_is in
    for_ok (IsCoreReply (known_of s.chain.known) s.chain.core k) (IsReplyAfter o c.args.self.now.journal k) c.judge.result
    (λ r said. subst (λ (l : List Entry). IsReplyAfter o l k r) journal (replied_after o s.chain.core s.chain.known s.journal.items k r i.0 i.6 said))
    c.judge.ensures.reply

pub returns-clause-wants : goal.returns-clause-wants
returns-clause-wants g c =
    let i = c.self.invariant in
    let s = c.self.inside in
    let o : Origin = g.J.Naming.origin in
    let k : Command = command_of c.args.command.now in
    let journal : s.journal.items ≡ c.args.self.now.journal = ap (λ (h : PublishedState). h.journal) c.self.view_is in
    for_err (IsWantOf s.chain.core (known_of s.chain.known) k) (IsWantAfter o c.args.self.now.journal k) c.judge.result
    (λ why want. subst (λ (l : List Entry). IsWantAfter o l k why) journal (wanted_after o s.chain.core s.chain.known s.journal.items k why i.0 i.6 want))
    c.judge.ensures.wants
