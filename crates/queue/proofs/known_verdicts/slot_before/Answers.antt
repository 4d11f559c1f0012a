use Rattle.std.proofs.Common.{◌≡◌, ◌-◌, Some, get_or, arith}
use Rattle.std.specs.Prelude.{slice_get}
use Rattle.std.proofs.lemmas.Option.{slice_get-get_or}
use Rattle.interp.specs.declared.job.Job.{Job}
use Rattle.queue.proofs.Pairs.{same_tx}
use Rattle.queue.proofs.known_verdicts.slot_before.Goals as goal

pub returns-then-goes_on : goal.returns-then-goes_on
returns-then-goes_on c job is =
    let jobs = c.args.jobs.now in
    let place = c.args.place in
    let on = c.goes_on.ensures c.if-goes_on.true in
    let before : Job = get_or jobs (place - 1) job in
    let there : slice_get jobs (place - 1) ≡ Some before = slice_get-get_or jobs (place - 1) job (omega (arith, c.requires.place)) in
    same_tx c.args.index.now.verdicts.now c.args.numbers.now jobs place on.0 c.args.before before job c.requires.numbered on.2 on.3 there is (c.requires.before before on.1 there)
