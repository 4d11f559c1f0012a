use Rattle.std.proofs.Common.{◌≡◌, None, sym, ap, ◌∙◌}
use Rattle.std.specs.Option.{option_copied}
use Rattle.interp.specs.Question.{question_of}
use Rattle.queue.specs.inside.KnownAnswers.{slot_for}
use Rattle.queue.proofs.Pairs.{if_none, none_without_slot}
use Rattle.queue.proofs.verdict_index.Index.find.Goals as goal

pub returns-in_err-slot-clause-none : goal.returns-in_err-slot-clause-none
returns-in_err-slot-clause-none c =
    let index = c.args.self.now in
    let none : slot_for index.slots.entries c.key_of.result ≡ None = sym c.get.ensures.value ∙ ap option_copied c.in_err-slot.was in
    if_none c.from_residual.result _ (none_without_slot index.verdicts.now index.slots.entries (question_of c.args.job.now) c.key_of.result c.requires.covers c.key_of.ensures none)
