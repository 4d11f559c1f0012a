use Rattle.std.proofs.Common.{◌≡◌, ◌-◌, Some, get_or, ap, subst, sym, ◌∙◌, arith}
use Rattle.std.specs.Prelude.{slice_get}
use Rattle.std.proofs.lemmas.Option.{slice_get-get_or}
use Rattle.interp.specs.declared.job.Job.{Job}
use Rattle.interp.specs.Question.{question_of}
use Rattle.queue.specs.Jobs.{Batch, Spending, questions}
use Rattle.queue.proofs.Pairs.{AsksButForTx, fits_like, some_is}
use Rattle.queue.proofs.same_jobs.is_asked.Goals as goal

pub returns-then-are_of_one : goal.returns-then-are_of_one
returns-then-are_of_one c t job is =
    let jobs = c.args.jobs.now in
    let place = c.args.place in
    let batch = c.args.own.now.batch in
    let on = c.goes_on.ensures c.if-goes_on.true in
    let before : Job = get_or jobs (place - 1) job in
    let there : slice_get jobs (place - 1) ≡ Some before = slice_get-get_or jobs (place - 1) job (omega (arith, c.requires.place)) in
    let same : job ≡ c.index-jobs-place.result = some_is job c.index-jobs-place.result (sym is ∙ slice_get-get_or jobs place c.index-jobs-place.result c.requires.place ∙ ap (λ (j : Job). Some j) (sym c.index-jobs-place.is)) in
    let one : (a b : Spending) → slice_get batch.spendings (place - 1) ≡ Some a → slice_get batch.spendings place ≡ Some b → a.place ≡ b.place = subst (λ (x : Batch). (a b : Spending) → slice_get x.spendings (place - 1) ≡ Some a → slice_get x.spendings place ≡ Some b → a.place ≡ b.place) c.jobs.ensures (c.are_of_one.ensures c.if-are_of_one.true) in
    fits_like batch (place - 1) place (question_of before) job (c.requires.before c.if-before.true on.1 before there)
    (c.requires.numbered (place - 1) place on.0 before job there is on.2 on.3) one
    (subst (λ (j : Job). AsksButForTx batch place j) (sym same) (subst (λ (x : Batch). AsksButForTx x place c.index-jobs-place.result) c.jobs-then-are_of_one.ensures (c.asks_but_for_tx.ensures.0 t)))

pub returns : goal.returns
returns c t job is =
    let jobs = c.args.jobs.now in
    let place = c.args.place in
    let same : c.index-jobs-place.result ≡ job = some_is c.index-jobs-place.result job (ap (λ (j : Job). Some j) c.index-jobs-place.is ∙ sym (slice_get-get_or jobs place c.index-jobs-place.result c.requires.place) ∙ is) in
    subst (λ (j : Job). slice_get (questions c.args.own.now.batch) place ≡ Some (question_of j)) same (c.fits.ensures.0 t)
