use Rattle.std.proofs.Common.{rules, ◌≡◌, Some, length, ◌-◌, ap, ◌∙◌}
use Rattle.std.specs.Prelude.{slice_get}
use Rattle.model.specs.declared.command.Command.{Command}
use Rattle.model.specs.declared.entry.Entry.{Entry}
use Rattle.model.specs.History.{entry_of}
use Rattle.node.specs.inside.PublishedState.{entry_with_reply}
use Rattle.node.proofs.Publications.{last_found}
use Rattle.node.proofs.published_history.brought.last_with_reply.Goals as goal

pub returns : goal.returns
returns c before e all =
    let journal = c.args.journal.now in
    let found : slice_get journal (length journal - 1) ≡ Some c.in-Some.last.now = search rules in
    let last : c.in-Some.last.now ≡ e = last_found before journal e c.in-Some.last.now all found in
    c.in-Ok-of.ensures ∙ ap (λ (q : Command). entry_of c.in-Some.last.now.seat q c.args.reply) c.in-Ok.ensures ∙ ap (λ (f : Entry). entry_with_reply f c.args.reply) last
