use Rattle.std.proofs.Common.{rules, ◌<◌, get_or, length}
use Rattle.std.proofs.lemmas.Option.{slice_get-get_or}
use Rattle.interp.specs.Question.{question_of}
use Rattle.queue.proofs.Pairs.{fits_by, none_all, none_next}
use Rattle.queue.proofs.verdict_index.Index.search.Goals as goal

pub returns-in-Some-clause-found : goal.returns-in-Some-clause-found
returns-in-Some-clause-found c =
    let verdicts = c.args.self.now.verdicts.now in
    let within : c.loop-list.list < length verdicts = search rules in
    let own = get_or verdicts c.loop-list.list c.index-self-list.result in
    let found = c.in-Some.ensures.found in
    fits_by verdicts (record { verdicts = c.loop-list.list; place = c.in-Some.place }) (question_of c.args.job.now) own (slice_get-get_or verdicts c.loop-list.list c.index-self-list.result within) found.0 found.1

pub loop-list-preserved : goal.loop-list-preserved
loop-list-preserved c =
    let verdicts = c.args.self.now.verdicts.now in
    let within : c.loop-list.list < length verdicts = search rules in
    none_next verdicts c.loop-list.list (get_or verdicts c.loop-list.list c.index-self-list.result) (question_of c.args.job.now)
    (slice_get-get_or verdicts c.loop-list.list c.index-self-list.result within)
    c.in_default.ensures.none c.loop-list.invariant

pub returns-clause-none : goal.returns-clause-none
returns-clause-none c =
    let verdicts = c.args.self.now.verdicts.now in
    none_all verdicts c.loop-list.list (question_of c.args.job.now) (search rules) c.loop-list.invariant
