use Rattle.std.proofs.Common.{◌∙◌, ap, arith}
use Rattle.std.proofs.lemmas.Option.{slice_get-get_or}
use Rattle.interp.specs.Answer.{unknown_in}
use Rattle.queue.specs.Jobs.{verdict_of}
use Rattle.queue.proofs.jobs.JobListPlaces.judge.Goals as goal

pub returns-in-Err-Unknown : goal.returns-in-Err-Unknown
returns-in-Err-Unknown g c =
    let jobs = c.args.self.now.jobs.now in
    ap (verdict_of (g.S.KnowsSignatures.known c.args.self.now.by.now)) (slice_get-get_or jobs c.args.place c.index-self-place.result (omega (arith, c.requires.place, c.args.self.now.inside)))
    ∙ c.in-Err-Unknown.ensures _ (ap unknown_in c.in-Err-Unknown.field-0-is)
