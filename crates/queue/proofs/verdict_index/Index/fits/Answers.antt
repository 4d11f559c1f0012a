use Rattle.std.proofs.Common.{rules, ◌≡◌, ◌<◌, Option, Some, get_or, length, refl, sym, ap, ◌∙◌, subst}
use Rattle.std.specs.Prelude.{IfSome, IsSome, slice_get}
use Rattle.std.proofs.lemmas.Option.{slice_get_read}
use Rattle.queue.specs.declared.verdict_index.Slot.{Slot}
use Rattle.interp.specs.Question.{question_of}
use Rattle.queue.specs.Early.{answer_at}
use Rattle.queue.specs.Jobs.{Answered, Batch, Spending, answers_to, known_then, questions}
use Rattle.queue.specs.inside.KnownAnswers.{IsOfSame}
use Rattle.queue.proofs.Pairs.{fits_by, fits_like, some_is}
use Rattle.queue.proofs.verdict_index.Index.fits.Goals as goal

pub returns-in-Some-before : goal.returns-in-Some-before
returns-in-Some-before c t =
    let verdicts = c.args.self.now.verdicts.now in
    let slot = c.args.slot in
    let job = c.args.job.now in
    let own : Answered = c.in-Some.own.now in
    let other : Slot = c.in-Some-before.other in
    let within : slot.verdicts < length verdicts = search rules in
    let same : own ≡ get_or verdicts slot.verdicts own = search rules in
    let there : slice_get verdicts slot.verdicts ≡ Some own = slice_get_read verdicts (length verdicts) slot.verdicts own refl within same in
    let before : IsOfSame verdicts other job.tx.now = subst (λ (o : Option Slot). IfSome o (λ s. IsOfSame verdicts s job.tx.now)) c.in-Some-before.is c.requires.before in
    let list : other.verdicts ≡ slot.verdicts = search rules in
    let its : before.1.own ≡ own = some_is before.1.own own (sym before.1.there ∙ ap (slice_get verdicts) list ∙ there) in
    let lent : c.jobs.result.now ≡ own.batch = c.jobs.ensures in
    let lent_again : c.jobs-in-Some-before.result.now ≡ own.batch = c.jobs-in-Some-before.ensures in
    let one : (a b : Spending) → slice_get own.batch.spendings other.place ≡ Some a → slice_get own.batch.spendings slot.place ≡ Some b → a.place ≡ b.place = subst (λ (x : Batch). (a b : Spending) → slice_get x.spendings other.place ≡ Some a → slice_get x.spendings slot.place ≡ Some b → a.place ≡ b.place) lent (c.are_of_one.ensures c.if-are_of_one.true) in
    let asked : slice_get (questions own.batch) slot.place ≡ Some (question_of job) = fits_like own.batch other.place slot.place before.0 job (subst (λ (a : Answered). slice_get (questions a.batch) other.place ≡ Some before.0) its before.1.asked) before.2 one
    (subst (λ (x : Batch). (s : Spending) × (slice_get x.spendings slot.place ≡ Some s) × (s.input ≡ job.input) × (s.spent ≡ job.spent.now) × (x.flags ≡ job.flags)) lent_again (c.asks_but_for_tx.ensures.0 t)) in
    let some : IsSome (answer_at (answers_to (known_then own) (questions own.batch)) slot.place) = search rules in
    fits_by verdicts slot (question_of job) own there asked some

pub returns-in_default-before : goal.returns-in_default-before
returns-in_default-before c t =
    let verdicts = c.args.self.now.verdicts.now in
    let slot = c.args.slot in
    let own : Answered = c.in-Some.own.now in
    let within : slot.verdicts < length verdicts = search rules in
    let same : own ≡ get_or verdicts slot.verdicts own = search rules in
    let some : IsSome (answer_at (answers_to (known_then own) (questions own.batch)) slot.place) = search rules in
    fits_by verdicts slot (question_of c.args.job.now) own (slice_get_read verdicts (length verdicts) slot.verdicts own refl within same) (c.fits.ensures.0 t) some
